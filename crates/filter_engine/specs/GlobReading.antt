-- What the functions say that read globs.
use Rattle.std.specs.Prelude.{◌≡◌, ℕ, ◌⊎◌, ◌↔◌, Bool, true, false, List, [], ◌∷◌, ◌++◌, Some, None, drop, map, MatchOption, MatchResult, Option, Result}
use Rattle.regex_hir.specs.Re.{Re, cat}
use Rattle.regex_hir.specs.Meaning.{meaning, cat_all, alt_all}
use Rattle.regex_hir.specs.declared.hir.Hir.{Hir}
use Rattle.filter_engine.specs.Globs.{Row, Branches, opens, is_last, WritesPart, WritesRow, WritesBranches, RowTakes, SomeTakes, is_empty, are_empty}
use Rattle.filter_engine.specs.Patterns.{MatchesKind}
use Rattle.filter_engine.specs.declared.glob.fault.RowFault.{RowFault}
use Rattle.filter_engine.specs.declared.glob.fault.RowFault.TheVariants.{Memory}
use Rattle.filter_engine.specs.declared.glob.place.Place.{Place}
use Rattle.filter_engine.specs.declared.glob.place.Place.TheVariants.{Start}
use Rattle.filter_engine.specs.declared.glob.part.GlobPart.{GlobPart}

-- Folders are at the front of the text, where they may.
abbrev pub BeginsFolders : Place → List ℕ → Type 0
BeginsFolders place text = (rest : List ℕ) × (text ≡ 42 ∷ 42 ∷ 47 ∷ rest) × (opens place ≡ true)

-- The last stars of a branch of folders are at the front of the text.
abbrev pub BeginsLast : Bool → Place → List ℕ → Type 0
BeginsLast inside place text =
    (rest : List ℕ) × (text ≡ 42 ∷ 42 ∷ rest) × (is_last inside place rest ≡ true)

-- The part is at the front of the text and has so many bytes, or no part does.
abbrev pub ReadsPart : Bool → Place → List ℕ → Result (GlobPart × ℕ) RowFault → Type 0
ReadsPart inside place text result =
    MatchResult result (λ read. WritesPart inside place text read.0 (drop read.1 text))
    (λ fault. (part : GlobPart) (rest : List ℕ) → WritesPart inside place text part rest → ⊥)

-- What is put in front of a row changes nothing: it is empty and takes nothing.
abbrev pub IsSkipped : (Row → Row) → Type 0
IsSkipped step =
    (row : Row) → (is_empty (step row) ≡ is_empty row)
    × ((bytes : List ℕ) → RowTakes (step row) bytes ↔ RowTakes row bytes)

-- What is put in front of a row is not empty and takes what the pattern matches.
abbrev pub IsMatched : (Row → Row) → Re → Type 0
IsMatched step re =
    (row : Row) → (is_empty (step row) ≡ false)
    × ((tail : Re) → MatchesKind (RowTakes row) tail
    → MatchesKind (RowTakes (step row)) (cat re tail))

module _ (inside : Bool) (levels : ℕ) where
  -- A row that the text writes is some piece, always the same, in front of a row that the rest
  -- writes from its place on. The pattern matches what the piece takes; there is none for an
  -- empty piece.
  abbrev pub ReadsPiece : Place → List ℕ → Option Hir → Place → List ℕ → Type 0
  ReadsPiece place text pattern next rest =
      (step : Row → Row)
      × ((row : Row) (left : List ℕ) → WritesRow inside levels place text row left
      ↔ ((behind : Row) × (row ≡ step behind) × WritesRow inside levels next rest behind left))
      × MatchOption pattern (IsSkipped step) (λ hir. IsMatched step (meaning hir))

  -- Memory ran out, or the text writes no row from this place on.
  abbrev pub NoRow : Place → List ℕ → RowFault → Type 0
  NoRow place text fault =
      (fault ≡ Memory) ⊎ ((row : Row) (rest : List ℕ)
      → WritesRow inside levels place text row rest → ⊥)

  -- The text writes one row and one rest: these.
  abbrev pub WritesOneRow : List ℕ → Row → List ℕ → Type 0
  WritesOneRow text row rest =
      (other : Row) (left : List ℕ)
      → WritesRow inside levels Start text other left ↔ ((other ≡ row) × (left ≡ rest))

-- whether there is no pattern
abbrev pub is_nil : List Hir → Bool
is_nil [] = true
is_nil (hir ∷ hirs) = false

-- The patterns match what the row takes, one behind another. There are none for an empty row.
abbrev pub RowPatterns : Row → List Hir → Type 0
RowPatterns row hirs =
    MatchesKind (RowTakes row) (cat_all (map meaning hirs)) × (is_empty row ≡ is_nil hirs)

-- The text writes one row before the rest, and the patterns match what it takes.
abbrev pub ReadsRow : Bool → ℕ → List ℕ → List Hir → List ℕ → Type 0
ReadsRow inside levels text hirs rest =
    (row : Row) × WritesOneRow inside levels text row rest × RowPatterns row hirs

-- The text writes one list of branches and one rest: these.
abbrev pub WritesOneGroup : ℕ → List ℕ → Branches → List ℕ → Type 0
WritesOneGroup levels text branches rest =
    (other : Branches) (left : List ℕ)
    → WritesBranches levels text other left ↔ ((other ≡ branches) × (left ≡ rest))

-- The pattern matches what one of the branches takes. There is none where all are empty.
abbrev pub GroupPattern : Branches → Option Hir → Type 0
GroupPattern branches pattern =
    MatchOption pattern (are_empty branches ≡ true)
    (λ hir. (are_empty branches ≡ false) × MatchesKind (SomeTakes branches) (meaning hir))

-- The text writes one list of branches before the rest, and the pattern matches what it takes.
abbrev pub ReadsGroup : ℕ → List ℕ → Option Hir → List ℕ → Type 0
ReadsGroup levels text pattern rest =
    (branches : Branches) × WritesOneGroup levels text branches rest × GroupPattern branches pattern

-- Memory ran out, or the text writes no branches.
abbrev pub NoGroup : ℕ → List ℕ → RowFault → Type 0
NoGroup levels text fault =
    (fault ≡ Memory)
    ⊎ ((branches : Branches) (rest : List ℕ) → WritesBranches levels text branches rest → ⊥)

-- The new patterns are the old ones, and the pattern behind them if there is one.
abbrev pub AddsPattern : Option Hir → List Hir → List Hir → Type 0
AddsPattern pattern old new = MatchOption pattern (new ≡ old) (λ hir. new ≡ old ++ hir ∷ [])

-- The new patterns are the old ones, and behind them one that matches what those of a branch do,
-- one behind another, if the branch has any.
abbrev pub AddsBranch : List Hir → List Hir → List Hir → Type 0
AddsBranch [] old new = new ≡ old
AddsBranch (first ∷ others) old new =
    (hir : Hir) × (new ≡ old ++ hir ∷ []) × (meaning hir ≡ cat_all (map meaning (first ∷ others)))

-- The pattern matches what one of the branches does. There is none where there is no branch.
abbrev pub MatchesAny : List Hir → Option Hir → Type 0
MatchesAny [] pattern = pattern ≡ None
MatchesAny (first ∷ others) pattern =
    (hir : Hir) × (pattern ≡ Some hir) × (meaning hir ≡ alt_all (map meaning (first ∷ others)))
