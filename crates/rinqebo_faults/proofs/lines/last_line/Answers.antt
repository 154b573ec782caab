use Rattle.std.proofs.Common.{◌∙◌, ap, arith}
use Rattle.std.specs.Prelude.{flat_map}
use Rattle.std.proofs.lemmas.List.{at_drop_all}
use Rattle.rinqebo_faults.specs.Lines.{part_of, parts_from}
use Rattle.rinqebo_faults.proofs.ShownLines.{skip}
use Rattle.rinqebo_faults.proofs.lines.last_line.Goals as goal

pub loop-mark-preserved : goal.loop-mark-preserved
loop-mark-preserved c = λ number high line.
    let l = c.loop-mark in
    l.invariant number (omega arith) line
    ∙ skip number line c.args.marks.now l.mark-index c.last_shown.result _ c.loop-mark-test.true c.last_shown.ensures (omega arith)

pub returns : goal.returns
returns c = λ number high line.
    ap (parts_from 0)
    (c.loop-mark.invariant number high line
    ∙ at_drop_all (flat_map (part_of number line)) c.args.marks.now c.loop-mark.mark-index c.loop-mark-test.false)
