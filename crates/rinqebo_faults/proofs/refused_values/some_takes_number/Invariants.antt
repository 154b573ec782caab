use Rattle.std.proofs.Common.{◌≡◌, drop}
use Rattle.nextest_shape.specs.View.{shapes_view}
use Rattle.rinqebo_faults.specs.RefusedValues.{has_number}
use Rattle.rinqebo_faults.specs.Spellings.{is_one}
use Rattle.rinqebo_faults.proofs.refused_values.some_takes_number.Given as goal

abbrev pub invariant-loop-shape : goal.invariant-loop-shape
invariant-loop-shape l =
    is_one (has_number l.number) (shapes_view (drop l.shape-index l.shape-items))
    ≡ is_one (has_number l.number) (shapes_view l.shape-items)
