use Rattle.std.proofs.Common.{◌≡◌, drop}
use Rattle.nextest_tree.specs.View.{tree_view}
use Rattle.nextest_places.specs.Path.{has_path}
use Rattle.nextest_places.proofs.step.has_path.Given as goal

abbrev pub invariant-loop-step : goal.invariant-loop-step
invariant-loop-step l =
    has_path (drop l.step-index l.path) (tree_view l.tree) ≡ has_path l.path (tree_view l.document)
