use Rattle.std.proofs.Common.{◌≡◌, drop}
use Rattle.nextest_shape.specs.View.{shapes_view}
use Rattle.rinqebo_faults.specs.Expected.{has_duration}
use Rattle.rinqebo_faults.proofs.expected.has_duration.Given as goal

abbrev pub invariant-loop-shape : goal.invariant-loop-shape
invariant-loop-shape l =
    has_duration (shapes_view (drop l.shape-index l.shape-items))
    ≡ has_duration (shapes_view l.shape-items)
