use Rattle.std.proofs.Common.{◌≡◌, drop}
use Rattle.nextest_tree.specs.View.{tree_view}
use Rattle.nextest_documents.specs.Along.{way_along}
use Rattle.nextest_documents.specs.Layers.{keys_view}
use Rattle.nextest_documents.proofs.along.way_in.Given as goal

abbrev pub invariant-loop-key : goal.invariant-loop-key
invariant-loop-key l =
    way_along (keys_view (drop l.key-index l.path)) (tree_view l.node) ≡ way_along (keys_view l.path) (tree_view l.tree)
