use Rattle.std.proofs.Common.{◌∙◌, None, Some, ap, sym}
use Rattle.rinqebo_report.proofs.Prefixes.{stripped}
use Rattle.rinqebo_changes.specs.Sides.RunRows.{ends_key}
use Rattle.rinqebo_changes.proofs.sides.rows.is_below.Goals as goal

pub returns-in-Some : goal.returns-in-Some
returns-in-Some c =
    c.is_end.ensures ∙ ap ends_key (sym (stripped c.args.above.now c.args.key.now (Some c.in-Some.rest)
    c.in-Some.ensures.cases))

pub returns-in-None : goal.returns-in-None
returns-in-None c = ap ends_key (sym (stripped c.args.above.now c.args.key.now None c.in-None.ensures.cases))
