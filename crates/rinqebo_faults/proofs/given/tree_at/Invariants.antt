use Rattle.std.proofs.Common.{◌≡◌, drop}
use Rattle.nextest_tree.specs.View.{tree_view}
use Rattle.nextest_places.specs.Path.{stands_at}
use Rattle.rinqebo_faults.proofs.given.tree_at.Given as goal

abbrev pub invariant-loop-step : goal.invariant-loop-step
invariant-loop-step l =
    stands_at (drop l.step-index l.path) (tree_view l.found)
    ≡ stands_at l.path (tree_view l.tree)
