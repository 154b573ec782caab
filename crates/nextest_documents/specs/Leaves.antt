-- The leaves of a node.
use Rattle.std.specs.Prelude.{ℕ, List, [], ◌∷◌, ◌++◌, map, Vec}
use Rattle.std.specs.declared.alloc.Global.{Global}
use denote.Ref.{Bor}
use Rattle.nextest_tree.specs.Node.{Node, table, Entries, no_entries, entry}
use Rattle.nextest_documents.specs.Shown.{Path}
use Rattle.nextest_documents.specs.Layers.{keys_view}

-- some paths
abbrev pub paths_view : List (Vec (Bor (List ℕ)) Global) → List Path
paths_view paths = map (λ path. keys_view path.items) paths

abbrev mutual
  -- the paths of a node's leaves: that of a leaf itself is empty
  pub leaf_paths : Node → List Path
  leaf_paths (table es) = member_paths es
  leaf_paths n = [] ∷ []

  -- the paths of the leaves of a table's entries, each behind the key of its entry
  pub member_paths : Entries → List Path
  member_paths no_entries = []
  member_paths (entry k n es) = map (λ p. k ∷ p) (leaf_paths n) ++ member_paths es
