use Rattle.std.proofs.Common.{◌||◌, sym, ap, ◌∙◌}
use Rattle.std.specs.BTreeSet.{contains_text}
use Rattle.nextest_rules.proofs.Naming.{is_text_of, next_text}
use Rattle.nextest_rules.proofs.names.copy_names.Goals as goal

pub loop-name-preserved : goal.loop-name-preserved
loop-name-preserved c q =
    next_text c.loop-name.names c.insert.new.self c.in_ok-clone.field-0 c.in-Some.name.now c.next.new.self q
    c.in_ok-clone.ensures.cases c.in_ok-insert.ensures.updates
    ∙ ap (λ ks. contains_text c.loop-name.names q || is_text_of ks q) (sym c.in-Some.ensures.steps)
    ∙ c.loop-name.invariant q
