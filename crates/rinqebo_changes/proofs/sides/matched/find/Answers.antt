use Rattle.rinqebo_changes.proofs.sides.Matching.{binary_found}
use Rattle.rinqebo_changes.proofs.sides.matched.find.Goals as goal

pub returns-in-Some : goal.returns-in-Some
returns-in-Some c =
    binary_found c.args.binaries.now c.loop-binary.binary-index c.binary-item.result c.binary-item.result _ _
    c.loop-binary-test.true c.binary-item.is c.in-Some.ensures
