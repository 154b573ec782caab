use Rattle.std.proofs.Common.{◌≡◌, drop}
use Rattle.nextest_shape.specs.View.{shapes_view}
use Rattle.nextest_tree.specs.View.{tree_view}
use Rattle.rinqebo_faults.specs.RefusedValues.{is_kind}
use Rattle.rinqebo_faults.specs.Spellings.{is_one}
use Rattle.rinqebo_faults.proofs.refused_values.is_of_some.Given as goal

abbrev pub invariant-loop-shape : goal.invariant-loop-shape
invariant-loop-shape l =
    is_one (is_kind (tree_view l.tree)) (shapes_view (drop l.shape-index l.shape-items))
    ≡ is_one (is_kind (tree_view l.tree)) (shapes_view l.shape-items)
