use Rattle.std.proofs.Common.{refl, sym, ◌∙◌}
use Rattle.std.proofs.lemmas.Bool.{true≢false}
use Rattle.nextest_documents.specs.Entries.{IsBelow, by_key}
use Rattle.nextest_documents.specs.Layers.{keys_view}
use Rattle.nextest_documents.proofs.Lists.{all_taken, contains_at}
use Rattle.nextest_documents.proofs.spelling.is_asked.Goals as goal

pub returns-then-branch : goal.returns-then-branch
returns-then-branch c = (
  λ yes. by_key (contains_at (λ key. key.now) c.args.keys.now c.loop-key.key-index _ c.loop-key-test.true)
      (c.in_ok-is_below.ensures.0 c.if-branch.true),
  λ asked. refl,
)

pub loop-key-preserved : goal.loop-key-preserved
loop-key-preserved c =
    all_taken (λ key. key.now) c.args.keys.now c.loop-key.key-index _ c.loop-key-test.true
    (λ key. IsBelow (keys_view c.args.path.now) key → ⊥) c.loop-key.invariant
    (λ below. true≢false (sym (c.in_ok-is_below.ensures.1 below) ∙ c.if-branch.false))
