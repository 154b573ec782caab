use Rattle.std.proofs.Common.{◌∙◌}
use Rattle.std.proofs.Math.Nat.{sub-zero}
use Rattle.nextest_places.proofs.FirstLines.{end_of, front_boundary, front_is}
use Rattle.nextest_places.proofs.fronts.front_of.Goals as goal

pub range-requires-clause-end_boundary : goal.range-requires-clause-end_boundary
range-requires-clause-end_boundary c =
    let at = end_of c.args.text.now c.args.ends.now c.args.count c.requires.ends c.requires.within
    c.if-count-eq0.false in
    rw at (front_boundary c.args.count c.args.text.now c.utf8.text)

pub returns : goal.returns
returns c =
    let at = end_of c.args.text.now c.args.ends.now c.args.count c.requires.ends c.requires.within
    c.if-count-eq0.false in
    c.range.ensures.value ∙ rw (sub-zero, at) (front_is c.args.count c.args.text.now)
