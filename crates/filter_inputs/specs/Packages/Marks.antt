-- The packages that a search has marked, each by its index.
use Rattle.std.specs.Prelude.{◌≡◌, ◌<◌, ℕ, Bool, true, false, not, List, count_by, slice_index_or}
use Rattle.filter_inputs.specs.declared.packages.edges.Edge.{Edge}
use Rattle.filter_inputs.specs.Packages.Edges.{Reaches, DependsOn}

-- the package at this index is marked
abbrev pub IsMarked : List Bool → ℕ → Type 0
IsMarked marks place = slice_index_or marks place false ≡ true

-- how many packages are not marked
abbrev pub unmarked : List Bool → ℕ
unmarked marks = count_by not marks

-- both ends of an edge are indices below n
abbrev pub IsBelow : ℕ → Edge → Type 0
IsBelow n edge = (edge.from < n) × (edge.to < n)

-- each mark stays
abbrev pub KeepsMarks : List Bool → List Bool → Type 0
KeepsMarks old new = (place : ℕ) → IsMarked old place → IsMarked new place

-- each mark is at a package that a marked one reaches
abbrev pub MarksReached : List Edge → List Bool → List Bool → Type 0
MarksReached edges old new =
    (place : ℕ) → IsMarked new place → (start : ℕ) × IsMarked old start × Reaches edges start place

-- what a marked package depends on is marked
abbrev pub IsClosed : List Edge → List Bool → Type 0
IsClosed edges marks = (a b : ℕ) → DependsOn edges a b → IsMarked marks a → IsMarked marks b
