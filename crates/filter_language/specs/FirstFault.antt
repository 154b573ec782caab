-- The first fault of a text, from left to right.
use Rattle.std.specs.Prelude.{◌≡◌, ◌⊎◌, ◌++◌, ℕ, All, Bool, List, [], ◌∷◌, None, Some, Ok, Err, map}
use Rattle.nextest_engines.specs.declared.queries.FiltersetKind.{FiltersetKind}
use Rattle.filter_language.specs.declared.fault.FiltersetFault.{FiltersetFault}
use Rattle.filter_language.specs.Filters.{MarkRead, next_in, fault_in}
use Rattle.filter_language.specs.Grammar.{Mark, WritesAFilter}
use Rattle.filter_language.specs.Nesting.{Shape, start_shape}
use Rattle.filter_language.specs.Places.{Misreading}
use Rattle.filter_language.specs.Predicates.{Compiler}
use Rattle.filter_language.specs.Writing.{AreBlanks, SpellsMark}

-- From a place on, marks are read one after another, up to another place, each with what is
-- open around it.
abbrev pub ReadsTo : {L : Type 0} → Compiler L → Bool → FiltersetKind → Shape → List ℕ
    → List (MarkRead L) → Shape → List ℕ → Type 0
ReadsTo compiler knows_packages kind shape place [] last end = (shape ≡ last) × (place ≡ end)
ReadsTo compiler knows_packages kind shape place (found ∷ marks) last end =
    (next_in compiler knows_packages kind shape place ≡ Ok (Some found))
    × ReadsTo compiler knows_packages kind found.shape found.rest marks last end

-- Of some marks this is wrong with the first one that may not be in a filter of the kind.
abbrev pub IsFirstObjection : {L : Type 0} → List (MarkRead L) → Misreading → Type 0
IsFirstObjection {L} marks m =
    (before : List (MarkRead L)) × (found : MarkRead L) × (behind : List (MarkRead L))
    × (marks ≡ before ++ found ∷ behind) × All (λ other. other.objection ≡ None) before
    × (found.objection ≡ Some m)

-- This is what is wrong first with a text: what is wrong with the first mark that is not read, or,
-- where the text is read up to its end, with the first mark that may not be in a filter of the
-- kind.
abbrev pub IsFirstWrong : {L : Type 0} → Compiler L → Bool → FiltersetKind → List ℕ → Misreading
    → Type 0
IsFirstWrong {L} compiler knows_packages kind text m =
    (marks : List (MarkRead L)) × (last : Shape) × (end : List ℕ)
    × ReadsTo compiler knows_packages kind start_shape text marks last end
    × ((next_in compiler knows_packages kind last end ≡ Err m)
    ⊎ ((next_in compiler knows_packages kind last end ≡ Ok None) × IsFirstObjection marks m))

-- This fault is the first one of a text.
abbrev pub IsFirstFault : {L : Type 0} → Compiler L → Bool → FiltersetKind → List ℕ
    → FiltersetFault → Type 0
IsFirstFault compiler knows_packages kind text fault =
    (m : Misreading) × IsFirstWrong compiler knows_packages kind text m × (fault ≡ fault_in text m)

-- A text writes marks, each behind blanks, and has a rest behind them.
abbrev pub Begins : {L : Type 0} → Compiler L → List ℕ → List (Mark L) → List ℕ → Type 0
Begins compiler text [] rest = text ≡ rest
Begins compiler text (m ∷ marks) rest =
    (blanks : List ℕ) × (spelling : List ℕ) × (behind : List ℕ)
    × AreBlanks blanks × SpellsMark compiler m spelling × (text ≡ blanks ++ (spelling ++ behind))
    × Begins compiler behind marks rest

-- Marks are the beginning of a filter that nests within the bound.
abbrev pub BeginAFilter : {L : Type 0} → List (Mark L) → Type 0
BeginAFilter {L} marks = (more : List (Mark L)) × WritesAFilter (marks ++ more)

-- What is read of a text is right: the text writes it, and it is the beginning of a filter.
abbrev pub IsWellBegun : {L : Type 0} → Compiler L → List ℕ → List (MarkRead L) → List ℕ
    → Type 0
IsWellBegun {L} compiler text marks rest =
    Begins compiler text (map (λ (found : MarkRead L). found.mark) marks) rest
    × BeginAFilter (map (λ (found : MarkRead L). found.mark) marks)
