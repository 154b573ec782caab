-- Marks in memory that are read one by one.
use Rattle.std.proofs.Common.{◌≡◌, ◌<◌, ◌++◌, ℕ, suc, Bool, true, false, List, [], ◌∷◌, Option, None, Some, Result, Ok, Err, IfErr, option_map, map, length, refl, ◌∙◌, ap, arith, if◌then◌else◌}
use Rattle.std.proofs.lemmas.Result.{err_from_is_err_and}
use Rattle.std.specs.Prelude.{IsErrAnd}
use Rattle.std.specs.Option.{option_or}
use Rattle.nextest_engines.specs.declared.queries.FiltersetKind.{FiltersetKind}
use Rattle.filter_language.specs.declared.fault.Misread as misread
use Rattle.filter_language.specs.declared.fault.Stop as stop
use Rattle.filter_language.specs.declared.fault.Stop.TheVariants.{Misread, Memory}
use Rattle.filter_language.specs.declared.mark.Mark as mark
use Rattle.filter_language.specs.declared.reading.next.Next as next
use Rattle.filter_language.specs.Filters.{MarkRead, Objected, next_view, wanted_in, joining_in, next_in, marks_within, unless_objected, marks_in}
use Rattle.filter_language.specs.Grammar.{Mark, mark_view}
use Rattle.filter_language.specs.Nesting.{Shape, start_shape}
use Rattle.filter_language.specs.Places.{Misreading, misreading_view, IfMisread}
use Rattle.filter_language.specs.Predicates.{Compiler, ◌>>=◌}
use Rattle.filter_language.proofs.Shapes.{map_push}
use Rattle.filter_language.proofs.Turns.{MarksOn, mark_on, marks_end, marks_fail}

-- All that a text gives, mark by mark.
abbrev pub whole_of : {L : Type 0} → Compiler L → Bool → FiltersetKind → List ℕ → Result (Objected L) Misreading
whole_of compiler knows kind text = marks_within compiler knows kind (suc (length text)) ([], None) start_shape text

-- No mark was read before the start.
pub marks_begin : {M L : Type 0} (compiler : Compiler L) (knows : Bool) (kind : FiltersetKind)
    (view : M → Mark L) (marks : List M) (shape : Shape) (text : List ℕ)
    → marks ≡ [] → shape ≡ start_shape
    → MarksOn compiler knows kind (map view marks, None) shape text (whole_of compiler knows kind text)
marks_begin compiler knows kind view marks shape text none start = (
  suc (length text),
  omega arith,
  ap (λ l. marks_within compiler knows kind (suc (length text)) (map view l, None) shape text) none
      ∙ ap (λ s. marks_within compiler knows kind (suc (length text)) ([], None) s text) start,
)

or_map : {A B : Type 0} (f : A → B) (a b : Option A)
    → option_map f (option_or a b) ≡ option_or (option_map f a) (option_map f b)
or_map f None b = refl
or_map f (Some x) b = refl

-- One more mark of those in memory.
pub mark_kept : {M L : Type 0} (compiler : Compiler L) (knows : Bool) (kind : FiltersetKind) (meaning : M → L)
    (marks more : List (mark.Mark M)) (before after : Option misread.Misread)
    (shape new : Shape) (place : List ℕ) (whole : Result (Objected L) Misreading) (found : next.Next M)
    → MarksOn compiler knows kind (map (mark_view meaning) marks, option_map misreading_view before) shape place whole
    → next_in compiler knows kind shape place ≡ Ok (Some (next_view meaning new found))
    → more ≡ marks ++ found.mark ∷ [] → after ≡ option_or before found.objection → length found.rest.now < length place
    → MarksOn compiler knows kind (map (mark_view meaning) more, option_map misreading_view after) new
    found.rest.now whole
mark_kept compiler knows kind meaning marks more before after shape new place whole found on is kept joined less =
    let it = mark_on compiler knows kind (map (mark_view meaning) marks, option_map misreading_view before)
    shape place whole (next_view meaning new found) on is less in
    let first : map (mark_view meaning) more ≡ map (mark_view meaning) marks ++ mark_view meaning found.mark ∷ [] =
    ap (map (mark_view meaning)) kept ∙ map_push (mark_view meaning) marks found.mark in
    let second : option_map misreading_view after
    ≡ option_or (option_map misreading_view before) (option_map misreading_view found.objection) =
    ap (option_map misreading_view) joined ∙ or_map misreading_view before found.objection in (
      it.0,
      it.1,
      ap (λ l. marks_within compiler knows kind it.0 (l, option_map misreading_view after) new found.rest.now) first
          ∙ ap (λ o. marks_within compiler knows kind it.0
          (map (mark_view meaning) marks ++ mark_view meaning found.mark ∷ [], o) new found.rest.now) second
          ∙ it.2,
    )

-- No mark follows, and nothing is objected to those before.
pub marks_done : {L : Type 0} (compiler : Compiler L) (knows : Bool) (kind : FiltersetKind) (text : List ℕ)
    (marks : List (Mark L)) (objection : Option misread.Misread) (shape : Shape) (place : List ℕ)
    → MarksOn compiler knows kind (marks, option_map misreading_view objection) shape place
    (whole_of compiler knows kind text)
    → next_in compiler knows kind shape place ≡ Ok None → objection ≡ None
    → marks_in compiler knows kind text ≡ Ok marks
unfolding marks_in
marks_done compiler knows kind text marks objection shape place on end none =
    ap unless_objected (marks_end compiler knows kind (marks, option_map misreading_view objection) shape
    place (whole_of compiler knows kind text) on end)
    ∙ ap (λ o. unless_objected (Ok (marks, option_map misreading_view o))) none

-- No mark follows, and something is objected to one before.
pub marks_objected : {L : Type 0} (compiler : Compiler L) (knows : Bool) (kind : FiltersetKind)
    (text : List ℕ) (marks : List (Mark L)) (objection : Option misread.Misread) (m : misread.Misread)
    (shape : Shape) (place : List ℕ)
    → MarksOn compiler knows kind (marks, option_map misreading_view objection) shape place
    (whole_of compiler knows kind text)
    → next_in compiler knows kind shape place ≡ Ok None → objection ≡ Some m
    → marks_in compiler knows kind text ≡ Err (misreading_view m)
unfolding marks_in
marks_objected compiler knows kind text marks objection m shape place on end some =
    ap unless_objected (marks_end compiler knows kind (marks, option_map misreading_view objection) shape
    place (whole_of compiler knows kind text) on end)
    ∙ ap (λ o. unless_objected (Ok (marks, option_map misreading_view o))) some

-- Something is wrong with the next mark.
pub marks_failed : {L : Type 0} (compiler : Compiler L) (knows : Bool) (kind : FiltersetKind) (text : List ℕ)
    (before : Objected L) (m : Misreading) (shape : Shape) (place : List ℕ)
    → MarksOn compiler knows kind before shape place (whole_of compiler knows kind text)
    → next_in compiler knows kind shape place ≡ Err m → marks_in compiler knows kind text ≡ Err m
unfolding marks_in
marks_failed compiler knows kind text before m shape place on wrong =
    ap unless_objected (marks_fail compiler knows kind before shape place m
    (whole_of compiler knows kind text) on wrong)

-- Where an operand is due, the next mark is the one there.
pub next_wanted : {L : Type 0} (compiler : Compiler L) (knows : Bool) (kind : FiltersetKind) (shape : Shape)
    (place : List ℕ) (found : MarkRead L)
    → shape.wants ≡ true → wanted_in compiler knows kind shape place ≡ Ok found
    → next_in compiler knows kind shape place ≡ Ok (Some found)
unfolding next_in
next_wanted {L} compiler knows kind shape place found wants is =
    ap (λ b. if b then wanted_in compiler knows kind shape place >>= (λ (x : MarkRead L). Ok (Some x)) else
    joining_in shape place) wants
    ∙ ap (λ r. r >>= (λ (x : MarkRead L). Ok (Some x))) is

pub wanted_wrong : {L : Type 0} (compiler : Compiler L) (knows : Bool) (kind : FiltersetKind) (shape : Shape)
    (place : List ℕ) (m : Misreading)
    → shape.wants ≡ true → wanted_in compiler knows kind shape place ≡ Err m
    → next_in compiler knows kind shape place ≡ Err m
unfolding next_in
wanted_wrong {L} compiler knows kind shape place m wants is =
    ap (λ b. if b then wanted_in compiler knows kind shape place >>= (λ (x : MarkRead L). Ok (Some x)) else
    joining_in shape place) wants
    ∙ ap (λ r. r >>= (λ (x : MarkRead L). Ok (Some x))) is

-- Where none is due, it is the one behind an operand.
pub next_joining : {L : Type 0} (compiler : Compiler L) (knows : Bool) (kind : FiltersetKind) (shape : Shape)
    (place : List ℕ)
    → shape.wants ≡ false → next_in compiler knows kind shape place ≡ joining_in shape place
unfolding next_in
next_joining {L} compiler knows kind shape place wants =
    ap (λ b. if b then wanted_in compiler knows kind shape place >>= (λ (x : MarkRead L). Ok (Some x)) else
    joining_in shape place) wants

if_misread : (s : stop.Stop) (P Q : Misreading → Type 0) → ((m : Misreading) → P m → Q m) → IfMisread s P
    → IfMisread s Q
if_misread (Misread m) P Q known wrong = known (misreading_view m) wrong
if_misread Memory P Q known wrong = tt

-- What a step finds wrong is passed on.
pub stop_passed : {X : Type 0} (r : Result X stop.Stop) (s : stop.Stop) (P Q : Misreading → Type 0)
    → IsErrAnd r (λ x. x ≡ s) → ((m : Misreading) → P m → Q m)
    → IfMisread s P → IfErr r (λ t. IfMisread t Q)
stop_passed r s P Q out known wrong = let p = err_from_is_err_and r out in rw (p.1, p.2) (if_misread s P Q known wrong)
