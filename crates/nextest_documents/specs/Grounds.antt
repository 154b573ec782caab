-- From which layers a value of profiles comes.
use Rattle.std.specs.Prelude.{◌≡◌, ℕ, List, [], ◌∷◌, ◌++◌, Contains, length, codes}
use Rattle.std.specs.List.{AllByRecursion}
use Rattle.std.specs.List.Sorted.{IsStrictlySortedBy}
use Rattle.std.specs.Ordering.{nat_cmp, flip_args}
use Rattle.nextest_tree.specs.Node.{Node}
use Rattle.nextest_documents.specs.Shown.{Path, a_leaf}
use Rattle.nextest_documents.specs.Layers.{Stands, IsShownBy}
use Rattle.nextest_documents.specs.declared.grounds.Grounds.{Grounds}

-- where the table of a profile is
abbrev pub profile_path : List ℕ → Path
profile_path name = codes "profile" ∷ name ∷ []

-- a profile writes something at a key of its table, in whatever layer
abbrev pub Writes : List Node → Path → List ℕ → Type 0
Writes layers key name = Stands layers (profile_path name ++ key)

-- The layer at a position shows a leaf at a path.
pub record ShowsLeaf (layers : List Node) (p : Path) (position : ℕ) : Type 0 where
  pub value : Node
  pub shown : IsShownBy layers p (a_leaf value) position

-- The layer at a position shows a leaf at a path or below it.
pub record ShowsLeafBelow (layers : List Node) (p : Path) (position : ℕ) : Type 0 where
  pub rest : Path
  pub leaf : ShowsLeaf layers (p ++ rest) position

-- The positions are those of the layers that show leaves at a path or below it, each once, the
-- highest first.
pub record AreGrounds (layers : List Node) (p : Path) (positions : List ℕ) : Type 0 where
  pub sound : AllByRecursion (ShowsLeafBelow layers p) positions
  pub complete : (position : ℕ) → ShowsLeafBelow layers p position → Contains positions position
  pub descend : IsStrictlySortedBy (flip_args nat_cmp) positions

-- A profile of a chain writes something at a key, no nearer profile does, and the layers are those
-- that show leaves of what it writes there.
pub record AreNearestGrounds (layers : List Node) (chain : List (List ℕ)) (key : Path)
    (grounds : Grounds) : Type 0 where
  pub nearer : List (List ℕ)
  pub name : List ℕ
  pub farther : List (List ℕ)
  pub splits : chain ≡ nearer ++ name ∷ farther
  pub profile : length nearer ≡ grounds.profile
  pub writes : Writes layers key name
  pub nearest : AllByRecursion (λ other. ¬ Writes layers key other) nearer
  pub layers_are : AreGrounds layers (profile_path name ++ key) grounds.layers.items
