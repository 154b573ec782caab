-- Layers of trees, the lowest first, and which of them shows what is at a path.
use Rattle.std.specs.Prelude.{◌≡◌, ◌≤◌, ℕ, List, length, map, Option, Some, None}
use denote.Ref.{Bor}
use Rattle.nextest_tree.specs.Node.{Node, table, no_entries}
use Rattle.nextest_tree.specs.View.{tree_view}
use Rattle.nextest_tree.specs.declared.tree.Tree.{Tree}
use Rattle.nextest_documents.specs.Shown.{Path, Kind, IsShown}

-- a layer without a document is an empty table, which writes nothing
abbrev pub layer_view : Option (Bor Tree) → Node
layer_view None = table no_entries
layer_view (Some tree) = tree_view tree.now

-- layers as nodes
abbrev pub layers_view : List (Option (Bor Tree)) → List Node
layers_view layers = map layer_view layers

-- keys as a path
abbrev pub keys_view : List (Bor (List ℕ)) → Path
keys_view keys = map (λ key. key.now) keys

-- something is at the path in the merged tree
abbrev pub Stands : List Node → Path → Type 0
Stands layers p = (k : Kind) × IsShown layers p k

-- The layer at a position, counted from the lowest on, shows this node at the path.
pub record IsShownBy (layers : List Node) (p : Path) (k : Kind) (position : ℕ) : Type 0 where
  pub shown : IsShown layers p k
  pub position_is : length shown.below ≡ position

-- The layer at a position shows a node at the path, and no layer above it shows one.
pub record IsHighest (layers : List Node) (p : Path) (position : ℕ) : Type 0 where
  pub kind : Kind
  pub shown : IsShownBy layers p kind position
  pub highest : (k : Kind) (other : ℕ) → IsShownBy layers p k other → other ≤ position
