use Rattle.std.proofs.Common.{◌≡◌, drop}
use Rattle.nextest_shape.specs.View.{shapes_view}
use Rattle.rinqebo_faults.specs.Spellings.{is_of, is_one}
use Rattle.rinqebo_faults.proofs.spellings.is_one.Given as goal

abbrev pub invariant-loop-shape : goal.invariant-loop-shape
invariant-loop-shape l =
    is_one (is_of l.wanted) (shapes_view (drop l.shape-index l.shape-items))
    ≡ is_one (is_of l.wanted) (shapes_view l.shape-items)
