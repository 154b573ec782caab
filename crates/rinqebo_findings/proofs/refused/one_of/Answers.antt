use Rattle.std.proofs.Common.{◌∙◌, sym}
use Rattle.rinqebo_findings.proofs.LaterWords.{none_known, some_known}
use Rattle.rinqebo_findings.proofs.refused.one_of.Goals as goal

pub returns-then-is_empty : goal.returns-then-is_empty
returns-then-is_empty c = none_known c.args.known.now (sym c.is_empty.ensures ∙ c.if-is_empty.true)

pub returns : goal.returns
returns c =
    some_known c.args.known.now _ (sym c.is_empty.ensures ∙ c.if-is_empty.false) c.in_ok-quoted.ensures
