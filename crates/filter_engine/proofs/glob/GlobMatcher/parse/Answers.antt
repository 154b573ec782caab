use Rattle.std.proofs.Common.{sym, ◌∙◌, ltb-true}
use Rattle.filter_engine.proofs.GlobParts.{plain_is_glob}
use Rattle.filter_engine.proofs.glob.GlobMatcher.parse.Goals as goal

pub returns-then-is_plain-clause-written : goal.returns-then-is_plain-clause-written
returns-then-is_plain-clause-written c =
    plain_is_glob c.args.text.now (rw c.as_bytes.ensures.value at (c.is_plain.ensures.0 c.if-is_plain.true))

pub returns-then-is_large-clause-large : goal.returns-then-is_large-clause-large
returns-then-is_large-clause-large c = λ _. (
  plain_is_glob c.args.text.now (rw c.as_bytes.ensures.value at (c.is_plain.ensures.0 c.if-is_plain.true)),
  ltb-true _ _ (sym c.is_large.ensures ∙ c.if-is_large.true),
)
