use Rattle.std.proofs.lemmas.Iterator.Consumers.{nth_from_yields_List}
use Rattle.std.proofs.lemmas.Iterator.Splits.{YieldsList-from_lines}
use Rattle.rinqebo_faults.proofs.toml_lines.line_of.Goals as goal

pub returns : goal.returns
returns c =
    nth_from_yields_List c.nth.result _ c.args.line c.nth.ensures.ran
    (YieldsList-from_lines c.args.text.now cc)
