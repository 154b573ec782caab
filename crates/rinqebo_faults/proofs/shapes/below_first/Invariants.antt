use Rattle.std.proofs.Common.{◌≡◌, drop}
use Rattle.nextest_shape.specs.View.{shapes_view}
use Rattle.rinqebo_faults.specs.Shapes.{below_first, key_of}
use Rattle.rinqebo_faults.proofs.shapes.below_first.Given as goal

abbrev pub invariant-loop-shape : goal.invariant-loop-shape
invariant-loop-shape l =
    below_first (shapes_view (drop l.shape-index l.shape-items)) (key_of l.step)
    ≡ below_first (shapes_view l.shape-items) (key_of l.step)
