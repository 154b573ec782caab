use Rattle.std.proofs.Common.{◌≡◌, drop}
use Rattle.nextest_tree.specs.View.{tree_view}
use Rattle.nextest_places.specs.Standing.{keys_at, key_path_view}
use Rattle.nextest_places.proofs.ids.table_at.Given as goal

abbrev pub invariant-loop-key : goal.invariant-loop-key
invariant-loop-key l =
    keys_at (key_path_view (drop l.key-index l.path)) (tree_view l.tree)
    ≡ keys_at (key_path_view l.path) (tree_view l.document)
