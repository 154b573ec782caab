-- Graphs of packages.
use Rattle.std.specs.Prelude.{◌≡◌, ℕ, Bool, IsTrue, List, Contains, Some}
use Rattle.std.specs.List.{slice_get}
use Rattle.filter_inputs.specs.declared.packages.edges.Edge.{Edge}
use Rattle.filter_inputs.specs.Packages.Edges.{Reaches}

-- A graph of packages, each known by its index in the metadata's list: their names, the indices of
-- the workspace's members, and the dependencies.
pub record Graph : Type 0 where
  pub names : List (List ℕ)
  pub members : List ℕ
  pub edges : List Edge

-- the package at this index is a member, and has this name
abbrev pub IsMemberNamed : Graph → List ℕ → ℕ → Type 0
IsMemberNamed graph name place =
    Contains graph.members place × (slice_get graph.names place ≡ Some name)

-- the package at this index is a member, and a test accepts its name
abbrev pub IsMatched : Graph → (List ℕ → Bool) → ℕ → Type 0
IsMatched graph accepts place =
    (name : List ℕ) × IsMemberNamed graph name place × IsTrue (accepts name)

-- a member with an accepted name reaches a member of this name
abbrev pub IsDependency : Graph → (List ℕ → Bool) → List ℕ → Type 0
IsDependency graph accepts name =
    (a b : ℕ) × IsMatched graph accepts a × IsMemberNamed graph name b × Reaches graph.edges a b

-- a member of this name reaches a member with an accepted name
abbrev pub IsDependent : Graph → (List ℕ → Bool) → List ℕ → Type 0
IsDependent graph accepts name =
    (a b : ℕ) × IsMatched graph accepts a × IsMemberNamed graph name b × Reaches graph.edges b a
