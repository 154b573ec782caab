-- The leaves that a configuration writes, and which of them count.
use Rattle.std.specs.Prelude.{◌≡◌, ◌<◌, ◌↔◌, ℕ, suc, List, [], ◌++◌, Bool, true, false, Contains, length, take, codes, slice_get, Some}
use Rattle.std.specs.Cmp.Lexicographic.{slice_cmp}
use Rattle.std.specs.List.{AllByRecursion, join_by}
use Rattle.std.specs.List.Sorted.{IsStrictlySortedBy}
use Rattle.std.specs.Ordering.{nat_cmp, ordering_then}
use Rattle.std.specs.declared.cmp.Ordering.{Ordering}
use Rattle.nextest_tree.specs.Node.{Node}
use Rattle.nextest_tree.specs.View.{tree_view}
use Rattle.nextest_documents.specs.Shown.{Path, a_leaf, node_at}
use Rattle.nextest_documents.specs.Grounds.{Writes}
use Rattle.nextest_documents.specs.Layers.{IsShownBy, keys_view}
use Rattle.nextest_documents.specs.Sections.{Region, section_view, base_path, nearer_than, regions, region_cmp, is_told, value_path}
use Rattle.nextest_documents.specs.declared.entries.LayerLeaf.{LayerLeaf}

-- keys with a dot between each two
abbrev pub dotted : Path → List ℕ
dotted p = join_by (λ key. key) (codes ".") p

-- The keys of a path up to one of them, with dots between them, spell a key that is requested.
pub record IsBelow (p : Path) (key : List ℕ) : Type 0 where
  pub last : ℕ
  pub within : last < length p
  pub spelled : dotted (take (suc last) p) ≡ key

-- a path is requested where no keys are, or where it is below one of them
pub data IsAsked (keys : List (List ℕ)) (p : Path) : Type 0 where
  with_all : keys ≡ [] → IsAsked keys p
  by_key : {key : List ℕ} → Contains keys key → IsBelow p key → IsAsked keys p

-- A leaf with its path below its region, its value, the layer that writes it, and whether it is
-- hidden.
pub record Leaf : Type 0 where
  pub path : Path
  pub value : Node
  pub region : Region
  pub layer : ℕ
  pub hidden : Bool

abbrev pub leaf_view : LayerLeaf → Leaf
leaf_view entry = record {
  path = keys_view entry.path.items;
  value = tree_view entry.value.now;
  region = section_view entry.section;
  layer = entry.layer;
  hidden = entry.is_hidden;
}

-- the layer at a position has a leaf at a path
pub record HasLeaf (layers : List Node) (position : ℕ) (p : Path) (value : Node) : Type 0 where
  pub node : Node
  pub layer : slice_get layers position ≡ Some node
  pub leaf : node_at p node ≡ Some (a_leaf value)

-- A leaf counts where its layer shows it, and no nearer profile writes the value that it is of.
pub record Counts (layers : List Node) (region : Region) (p : Path) (layer : ℕ) (value : Node)
    : Type 0 where
  pub shown : IsShownBy layers (base_path region ++ p) (a_leaf value) layer
  pub nearest : AllByRecursion (λ name. ¬ Writes layers (value_path p) name) (nearer_than region)

-- A layer writes this leaf in its region, it is listed and requested, and it is hidden exactly if
-- it does not count.
pub record IsLeaf (layers : List Node) (keys : List (List ℕ)) (leaf : Leaf) : Type 0 where
  pub told : is_told leaf.region leaf.path ≡ true
  pub asked : IsAsked keys leaf.path
  pub written : HasLeaf layers leaf.layer (base_path leaf.region ++ leaf.path) leaf.value
  pub shown : (leaf.hidden ≡ false)
      ↔ Counts layers leaf.region leaf.path leaf.layer leaf.value

-- hidden leaves are reported where they are wanted
abbrev pub IsWanted : Bool → Leaf → Type 0
IsWanted with_hidden leaf = leaf.hidden ≡ true → with_hidden ≡ true

-- paths in the order of their keys, by bytes
abbrev pub path_cmp : Path → Path → Ordering
path_cmp = slice_cmp (slice_cmp nat_cmp)

-- leaves are ordered by their paths, those of one path by their regions, those of one region by
-- their layers, the highest first
abbrev pub leaf_cmp : Leaf → Leaf → Ordering
leaf_cmp a b = ordering_then (path_cmp a.path b.path)
    (ordering_then (region_cmp a.region b.region) (nat_cmp b.layer a.layer))

-- The leaves are all those of a chain that count and, where hidden ones are wanted, all others, each
-- once and in order.
pub record AreEntries (layers : List Node) (chain keys : List (List ℕ)) (with_hidden : Bool)
    (leaves : List Leaf) : Type 0 where
  pub within : AllByRecursion (λ leaf. Contains (regions chain) leaf.region) leaves
  pub sound : AllByRecursion (IsLeaf layers keys) leaves
  pub wanted : AllByRecursion (IsWanted with_hidden) leaves
  pub complete : (leaf : Leaf) → Contains (regions chain) leaf.region → IsLeaf layers keys leaf
      → IsWanted with_hidden leaf → Contains leaves leaf
  pub ascend : IsStrictlySortedBy leaf_cmp leaves
