-- Bodies and marks that are read turn by turn.
use Rattle.std.proofs.Common.{◌≡◌, ◌<◌, ◌++◌, ℕ, zero, suc, Bool, List, [], ◌∷◌, None, Some, Result, Ok, Err, length, sym, ◌∙◌, ap, arith}
use Rattle.std.specs.Option.{option_or}
use Rattle.nextest_engines.specs.declared.queries.FiltersetKind.{FiltersetKind}
use Rattle.filter_language.specs.Arguments.{Turn, Onward, Over, behind_turn, body_within, body_in}
use Rattle.filter_language.specs.Filters.{MarkRead, Objected, next_in, behind_mark, marks_within}
use Rattle.filter_language.specs.Nesting.{Shape}
use Rattle.filter_language.specs.Places.{Misreading}
use Rattle.filter_language.specs.Predicates.{Compiler}

-- There are turns enough to read on from a place, and that gives the whole.
abbrev pub ReadsOn : (List ℕ → List ℕ → Result Turn Misreading) → List ℕ → List ℕ
    → Result (List ℕ × List ℕ) Misreading → Type 0
ReadsOn turn before rest whole = (n : ℕ) × (length rest < n) × (body_within turn n before rest ≡ whole)

-- Nothing was read before the start, and that gives the whole.
pub begins : (turn : List ℕ → List ℕ → Result Turn Misreading) (none text : List ℕ) → none ≡ []
    → ReadsOn turn none text (body_in turn text)
unfolding body_in
begins turn none text e =
    (suc (length text), omega arith, ap (λ (b : List ℕ). body_within turn (suc (length text)) b text) e)

pub goes_on : (turn : List ℕ → List ℕ → Result Turn Misreading) (old rest new next : List ℕ)
    (whole : Result (List ℕ × List ℕ) Misreading)
    → ReadsOn turn old rest whole → turn old rest ≡ Ok (Onward new next) → length next < length rest
    → ReadsOn turn new next whole
goes_on turn old rest new next whole (zero, more, same) is less = absurd (omega (arith, more))
goes_on turn old rest new next whole (suc n, more, same) is less =
    (n, omega (arith, more, less), sym (ap (behind_turn (body_within turn n)) is) ∙ same)

pub ends : (turn : List ℕ → List ℕ → Result Turn Misreading) (old rest new end : List ℕ)
    (whole : Result (List ℕ × List ℕ) Misreading)
    → ReadsOn turn old rest whole → turn old rest ≡ Ok (Over new end) → whole ≡ Ok (new, end)
ends turn old rest new end whole (zero, more, same) is = absurd (omega (arith, more))
ends turn old rest new end whole (suc n, more, same) is = sym same ∙ ap (behind_turn (body_within turn n)) is

pub fails : (turn : List ℕ → List ℕ → Result Turn Misreading) (old rest : List ℕ) (m : Misreading)
    (whole : Result (List ℕ × List ℕ) Misreading)
    → ReadsOn turn old rest whole → turn old rest ≡ Err m → whole ≡ Err m
fails turn old rest m whole (zero, more, same) is = absurd (omega (arith, more))
fails turn old rest m whole (suc n, more, same) is = sym same ∙ ap (behind_turn (body_within turn n)) is

-- There are marks enough to read on from a place, and that gives the whole.
abbrev pub MarksOn : {L : Type 0} → Compiler L → Bool → FiltersetKind → Objected L → Shape → List ℕ
    → Result (Objected L) Misreading → Type 0
MarksOn compiler knows kind before shape place whole =
    (n : ℕ) × (length place < n) × (marks_within compiler knows kind n before shape place ≡ whole)

pub mark_on : {L : Type 0} (compiler : Compiler L) (knows : Bool) (kind : FiltersetKind) (before : Objected L)
    (shape : Shape) (place : List ℕ) (whole : Result (Objected L) Misreading) (found : MarkRead L)
    → MarksOn compiler knows kind before shape place whole
    → next_in compiler knows kind shape place ≡ Ok (Some found) → length found.rest < length place
    → MarksOn compiler knows kind (before.0 ++ found.mark ∷ [], option_or before.1 found.objection)
    found.shape found.rest whole
mark_on compiler knows kind before shape place whole found (zero, more, same) is less = absurd (omega (arith, more))
mark_on compiler knows kind before shape place whole found (suc n, more, same) is less =
    (n, omega (arith, more, less), sym (ap (behind_mark (marks_within compiler knows kind n) before) is) ∙ same)

pub marks_end : {L : Type 0} (compiler : Compiler L) (knows : Bool) (kind : FiltersetKind)
    (before : Objected L) (shape : Shape) (place : List ℕ) (whole : Result (Objected L) Misreading)
    → MarksOn compiler knows kind before shape place whole → next_in compiler knows kind shape place ≡ Ok None
    → whole ≡ Ok before
marks_end compiler knows kind before shape place whole (zero, more, same) is = absurd (omega (arith, more))
marks_end compiler knows kind before shape place whole (suc n, more, same) is =
    sym same ∙ ap (behind_mark (marks_within compiler knows kind n) before) is

pub marks_fail : {L : Type 0} (compiler : Compiler L) (knows : Bool) (kind : FiltersetKind)
    (before : Objected L) (shape : Shape) (place : List ℕ) (m : Misreading) (whole : Result (Objected L) Misreading)
    → MarksOn compiler knows kind before shape place whole → next_in compiler knows kind shape place ≡ Err m
    → whole ≡ Err m
marks_fail compiler knows kind before shape place m whole (zero, more, same) is = absurd (omega (arith, more))
marks_fail compiler knows kind before shape place m whole (suc n, more, same) is =
    sym same ∙ ap (behind_mark (marks_within compiler knows kind n) before) is
