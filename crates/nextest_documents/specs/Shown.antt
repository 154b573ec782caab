-- The nodes of a tree by their paths, and which nodes of the layers no higher layer hides.
use Rattle.std.specs.Prelude.{◌≡◌, ◌↔◌, ℕ, List, [], ◌∷◌, ◌++◌, Option, Some, None}
use Rattle.std.specs.List.{AllByRecursion}
use Rattle.std.specs.Option.{option_and_then}
use Rattle.nextest_tree.specs.Node.{Node, table, get}

-- a path is the keys from the root on
abbrev pub Path : Type 0
Path = List (List ℕ)

-- a node is a table, also an empty one, or a leaf with its value: an array is one leaf
pub data Kind : Type 0 where
  a_table : Kind
  a_leaf : Node → Kind

-- a table is a table, and anything else is a leaf with itself as the value
abbrev pub kind_of : Node → Kind
kind_of (table es) = a_table
kind_of n = a_leaf n

-- the kind of what is at a path, if something is there: only tables are gone through
abbrev pub node_at : Path → Node → Option Kind
node_at [] n = Some (kind_of n)
node_at (k ∷ ks) (table es) = option_and_then (node_at ks) (get k es)
node_at (k ∷ ks) _ = None

-- the layer has a leaf at the path or at a beginning of it
pub record HasLeafAlong (layer : Node) (p : Path) : Type 0 where
  pub front : Path
  pub rest : Path
  pub value : Node
  pub splits : p ≡ front ++ rest
  pub leaf : node_at front layer ≡ Some (a_leaf value)

-- a layer hides a lower layer's node by a leaf along the node's path, and where that node is a leaf
-- also by a table at the path
pub data Hides (layer : Node) (p : Path) : Kind → Type 0 where
  by_leaf : {k : Kind} → HasLeafAlong layer p → Hides layer p k
  by_table : {v : Node} → node_at p layer ≡ Some a_table → Hides layer p (a_leaf v)

-- some layer has this node at the path, and no layer above that one hides it; the lowest layer
-- is first
pub record IsShown (layers : List Node) (p : Path) (k : Kind) : Type 0 where
  pub below : List Node
  pub layer : Node
  pub above : List Node
  pub splits : layers ≡ below ++ layer ∷ above
  pub there : node_at p layer ≡ Some k
  pub unhidden : AllByRecursion (λ higher. ¬ Hides higher p k) above

-- a tree's nodes are exactly those of a relation
abbrev pub HasExactly : Node → (Path → Kind → Type 0) → Type 0
HasExactly n R = (p : Path) (k : Kind) → (node_at p n ≡ Some k) ↔ R p k
