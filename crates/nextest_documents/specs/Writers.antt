-- Which sections of layers are searched for leaves, and what each of them has at a path.
use Rattle.std.specs.Prelude.{◌≡◌, ℕ, zero, suc, List, [], ◌∷◌, ◌++◌, Bool, true, Option, None, Some, MatchOption, map, flat_map}
use Rattle.std.specs.List.{AllZip}
use Rattle.nextest_tree.specs.Node.{Node}
use Rattle.nextest_documents.specs.Shown.{Path}
use Rattle.nextest_documents.specs.Entries.{Leaf, IsAsked, IsLeaf, IsWanted}
use Rattle.nextest_documents.specs.Sections.{Region, section_view, regions, is_told}
use Rattle.nextest_documents.specs.declared.entries.Writer.{Writer}

-- a region of the layer at a position
abbrev pub writer_view : Writer → Region × ℕ
writer_view writer = (section_view writer.section, writer.layer)

-- the numbers below one, the greatest first
abbrev pub countdown : ℕ → List ℕ
countdown zero = []
countdown (suc n) = n ∷ countdown n

-- a region of each layer, the highest first
abbrev pub writers_in : ℕ → Region → List (Region × ℕ)
writers_in count region = map (λ layer. (region, layer)) (countdown count)

-- all regions of all layers
abbrev pub writers : List (List ℕ) → ℕ → List (Region × ℕ)
writers chain count = flat_map (writers_in count) (regions chain)

-- a leaf of a region at a path is listed, and requested
pub record IsToldAndAsked (region : Region) (keys : List (List ℕ)) (p : Path) : Type 0 where
  pub told : is_told region p ≡ true
  pub asked : IsAsked keys p

-- A leaf is at a path in a region of a layer.
pub record IsAt (p : Path) (writer : Region × ℕ) (leaf : Leaf) : Type 0 where
  pub path : leaf.path ≡ p
  pub region : leaf.region ≡ writer.0
  pub layer : leaf.layer ≡ writer.1

-- A leaf of a layer, which is listed, requested and wanted.
pub record IsEntry (layers : List Node) (keys : List (List ℕ)) (with_hidden : Bool) (p : Path)
    (writer : Region × ℕ) (leaf : Leaf) : Type 0 where
  pub at : IsAt p writer leaf
  pub leaf_is : IsLeaf layers keys leaf
  pub wanted : IsWanted with_hidden leaf

-- a region of a layer has this entry at a path, or none
abbrev pub IsFound : List Node → List (List ℕ) → Bool → Path → Region × ℕ → Option Leaf
    → Type 0
IsFound layers keys with_hidden p writer found =
    MatchOption found ((leaf : Leaf) → ¬ IsEntry layers keys with_hidden p writer leaf)
    (IsEntry layers keys with_hidden p writer)

-- those that are there, in order
abbrev pub somes : List (Option Leaf) → List Leaf
somes [] = []
somes (None ∷ os) = somes os
somes (Some leaf ∷ os) = leaf ∷ somes os

-- What is found for each writer is added to some leaves.
pub record AddsFound (one : Region × ℕ → Option Leaf → Type 0) (writers : List (Region × ℕ))
    (old new : List Leaf) : Type 0 where
  pub found : List (Option Leaf)
  pub each : AllZip one writers found
  pub added : new ≡ old ++ somes found

-- the leaves are what is found at each path for each writer
pub data AreAllFound (one : Path → Region × ℕ → Option Leaf → Type 0)
    (writers : List (Region × ℕ)) : List Path → List Leaf → Type 0 where
  at_none : AreAllFound one writers [] []
  at_more : {ps : List Path} {p : Path} {old new : List Leaf} → AreAllFound one writers ps old
      → AddsFound (one p) writers old new → AreAllFound one writers (ps ++ p ∷ []) new
