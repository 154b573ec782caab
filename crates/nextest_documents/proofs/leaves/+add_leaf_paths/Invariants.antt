use Rattle.std.proofs.Common.{◌≡◌, List, ◌++◌, map}
use Rattle.nextest_tree.specs.View.{entries_view}
use Rattle.nextest_documents.specs.Layers.{keys_view}
use Rattle.nextest_documents.specs.Leaves.{paths_view, member_paths}
use Rattle.nextest_documents.proofs.LeafPaths.{LayerLeaf}
use Rattle.nextest_documents.proofs.leaves.+add_leaf_paths.Given as goal

-- the paths of the leaves of the members so far
abbrev pub invariant-add_member_paths-loop-key : goal.invariant-add_member_paths-loop-key
invariant-add_member_paths-loop-key l =
    (done : List LayerLeaf) × (l.members.entries ≡ done ++ l.key-iterator)
    × (paths_view l.paths.items ≡ paths_view l.initial.paths.items
    ++ map (λ p. keys_view l.path ++ p) (member_paths (entries_view done)))
