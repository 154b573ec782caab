use Rattle.std.proofs.Common.{◌≡◌, drop}
use Rattle.std.specs.Prelude.{find}
use Rattle.nextest_shape.specs.View.{shape_view}
use Rattle.rinqebo_faults.specs.Hints.{texts}
use Rattle.rinqebo_faults.specs.UnknownKeys.{part_knows}
use Rattle.rinqebo_faults.proofs.unknown_keys.knowing_part.Given as goal

abbrev pub invariant-loop-part : goal.invariant-loop-part
invariant-loop-part l =
    find (part_knows (shape_view l.file) l.table l.key) (texts (drop l.part-index l.parts))
    ≡ find (part_knows (shape_view l.file) l.table l.key) (texts l.parts)
