-- The lines that were gone through are all of the text.
use Rattle.std.proofs.Common.{ap, ◌∙◌, []}
use Rattle.std.specs.Prelude.{fold}
use Rattle.std.proofs.lemmas.Iterator.Splits.{YieldsList-from_lines}
use Rattle.std.proofs.lemmas.Iterator.Consumers.{YieldsList-end}
use Rattle.rinqebo_faults.specs.TomlLines.{on_one_line, with_line}
use Rattle.rinqebo_faults.proofs.toml_lines.on_one_line.Goals as goal

pub returns : goal.returns
unfolding on_one_line
returns c =
    let whole = YieldsList-end (YieldsList-from_lines c.args.text.now cc) c.loop-line.yielded _
    c.loop-line.yielded_by _ _ c.in-None.is c.next.ensures.steps in
    c.loop-line.invariant ∙ ap (fold with_line []) whole.0
