-- The fault of a text is the first one, and what is read before it is right.
use Rattle.std.proofs.Common.{◌≡◌, ◌<◌, ◌⊎◌, ℕ, zero, suc, Bool, true, false, inl, inr, All, List, [], ◌∷◌, ◌++◌, Option, None, Some, Result, Ok, Err, length, map, refl, sym, ◌∙◌, ap, subst, arith}
use Rattle.std.specs.Option.{option_or, option_and_then}
use Rattle.std.specs.Result.{result_map_both}
use Rattle.std.proofs.lemmas.List.Elements.{All-nil, All-cons, All-head, All-tail}
use Rattle.nextest_engines.specs.declared.queries.FiltersetKind.{FiltersetKind}
use Rattle.filter_language.specs.declared.fault.FiltersetFault.{FiltersetFault}
use Rattle.filter_language.specs.Filters.{MarkRead, Objected, next_in, behind_mark, marks_within, unless_objected, marks_in, fault_in, filter_in}
use Rattle.filter_language.specs.FirstFault.{ReadsTo, IsFirstObjection, IsFirstWrong, IsFirstFault, Begins, BeginAFilter, IsWellBegun}
use Rattle.filter_language.specs.Formula.{Always}
use Rattle.filter_language.specs.Grammar.{Mark, Asked, CloseMark}
use Rattle.filter_language.specs.Nesting.{Shape, start_shape, shape_step, shape_behind}
use Rattle.filter_language.specs.Places.{Misreading}
use Rattle.filter_language.specs.Predicates.{Compiler}
use Rattle.filter_language.specs.Texts.{skipped}
use Rattle.filter_language.specs.Writing.{AreBlanks, SpellsMark}
use Rattle.filter_language.proofs.MarksRead.{mark_front, rest_shorter, EndsBehind}
use Rattle.filter_language.proofs.MarksSpelled.{next_spelled}
use Rattle.filter_language.proofs.Shapes.{may_end_spells}
use Rattle.filter_language.proofs.Spelled.{skipped_are}

-- A mark that is read leaves less to read.
shorter : {L : Type 0} (compiler : Compiler L) (knows : Bool) (kind : FiltersetKind) (shape : Shape) (place : List ℕ)
    (found : MarkRead L) → next_in compiler knows kind shape place ≡ Ok (Some found)
    → length found.rest < length place
shorter compiler knows kind shape place found e =
    let is = next_spelled compiler knows kind shape place found e in
    let blank = skipped_are place in
    rest_shorter blank.0 is.spelling found.rest place (mark_front compiler found.mark is.spelling is.spells)
    (blank.2 ∙ ap (λ l. blank.0 ++ l) is.split)

abbrev IsUnobjected : {L : Type 0} → MarkRead L → Type 0
IsUnobjected other = other.objection ≡ None

-- The first of some objections.
abbrev first_objection : {L : Type 0} → List (MarkRead L) → Option Misreading
first_objection [] = None
first_objection (found ∷ marks) = option_or found.objection (first_objection marks)

or_assoc : {X : Type 0} (a b c : Option X) → option_or (option_or a b) c ≡ option_or a (option_or b c)
or_assoc None b c = refl
or_assoc (Some x) b c = refl

objection_next : {L : Type 0} (found : MarkRead L) (marks : List (MarkRead L)) (m : Misreading)
    (o : Option Misreading) → found.objection ≡ o → (first_objection marks ≡ Some m → IsFirstObjection marks m)
    → option_or o (first_objection marks) ≡ Some m → IsFirstObjection (found ∷ marks) m
objection_next {L} found marks m (Some n) is known e = ([], found, marks, refl, All-nil (IsUnobjected {L = L}), is ∙ e)
objection_next {L} found marks m None is known e =
    let it = known e in
    (found ∷ it.0, it.1, it.2, ap (λ l. found ∷ l) it.3, All-cons (IsUnobjected {L = L}) found it.0 is it.4, it.5)

objection_there : {L : Type 0} (marks : List (MarkRead L)) (m : Misreading) → first_objection marks ≡ Some m
    → IsFirstObjection marks m
objection_there [] m e = absurd (cc)
objection_there (found ∷ marks) m e =
    objection_next found marks m found.objection refl (λ more. objection_there marks m more) e

objection_found : {L : Type 0} (before behind : List (MarkRead L)) (found : MarkRead L) (m : Misreading)
    → All (IsUnobjected {L = L}) before → found.objection ≡ Some m
    → first_objection (before ++ found ∷ behind) ≡ Some m
objection_found {L} [] behind found m none is = ap (λ o. option_or o (first_objection behind)) is
objection_found {L} (other ∷ before) behind found m none is =
    ap (λ o. option_or o (first_objection (before ++ found ∷ behind)))
    (All-head (IsUnobjected {L = L}) other before none)
    ∙ objection_found before behind found m (All-tail (IsUnobjected {L = L}) other before none) is

module _ {L : Type 0} (compiler : Compiler L) (knows : Bool) (kind : FiltersetKind) where
  -- What stops the reading of a text, by what was objected to before.
  abbrev Stops : Option Misreading → Shape → List ℕ → Misreading → Type 0
  Stops before shape place m =
      (marks : List (MarkRead L)) × (last : Shape) × (end : List ℕ)
      × ReadsTo compiler knows kind shape place marks last end
      × ((next_in compiler knows kind last end ≡ Err m)
      ⊎ ((next_in compiler knows kind last end ≡ Ok None) × (option_or before (first_objection marks) ≡ Some m)))

  abbrev AreStopped : ℕ → Type 0
  AreStopped n = (before : Objected L) (shape : Shape) (place : List ℕ) (m : Misreading) → length place < n
      → unless_objected (marks_within compiler knows kind n before shape place) ≡ Err m
      → Stops before.1 shape place m

  one_more : (before : Option Misreading) (shape : Shape) (place : List ℕ) (m : Misreading) (found : MarkRead L)
      → next_in compiler knows kind shape place ≡ Ok (Some found)
      → Stops (option_or before found.objection) found.shape found.rest m → Stops before shape place m
  one_more before shape place m found is (marks, last, end, reads, inl wrong) =
      (found ∷ marks, last, end, (is, reads), inl wrong)
  one_more before shape place m found is (marks, last, end, reads, inr objected) = (
    found ∷ marks,
    last,
    end,
    (is, reads),
    inr (objected.0, sym (or_assoc before found.objection (first_objection marks)) ∙ objected.1),
  )

  objected_end : (before : Objected L) (m : Misreading) → unless_objected (Ok before) ≡ Err m
      → option_or before.1 None ≡ Some m
  objected_end (marks, None) m e = absurd (cc)
  objected_end (marks, Some n) m e = let same : n ≡ m = cc in ap Some same

  step_stopped : (n : ℕ) → AreStopped n → (before : Objected L) (shape : Shape) (place : List ℕ) (m : Misreading)
      (read : Result (Option (MarkRead L)) Misreading) → length place < suc n
      → next_in compiler knows kind shape place ≡ read
      → unless_objected (behind_mark (marks_within compiler knows kind n) before read) ≡ Err m
      → Stops before.1 shape place m
  step_stopped n known before shape place m (Ok (Some found)) less is e =
      let ahead = shorter compiler knows kind shape place found is in
      one_more before.1 shape place m found is
      (known (before.0 ++ found.mark ∷ [], option_or before.1 found.objection) found.shape found.rest m
      (omega (arith, less, ahead)) e)
  step_stopped n known before shape place m (Ok None) less is e =
      ([], shape, place, (refl, refl), inr (is, objected_end before m e))
  step_stopped n known before shape place m (Err other) less is e =
      let same : other ≡ m = cc in ([], shape, place, (refl, refl), inl (is ∙ ap Err same))

  stopped : (n : ℕ) → AreStopped n
  stopped zero before shape place m less e = absurd (omega (arith, less))
  stopped (suc n) before shape place m less e =
      step_stopped n (stopped n) before shape place m (next_in compiler knows kind shape place) less refl e

  -- The other way round.
  wrong_stops : (marks : List (MarkRead L)) (n : ℕ) (before : Objected L) (shape last : Shape) (place end : List ℕ)
      (m : Misreading) → length place < n → ReadsTo compiler knows kind shape place marks last end
      → next_in compiler knows kind last end ≡ Err m → marks_within compiler knows kind n before shape place ≡ Err m
  wrong_stops marks zero before shape last place end m less reads is = absurd (omega (arith, less))
  wrong_stops [] (suc n) before shape last place end m less (same, also) is =
      ap (behind_mark (marks_within compiler knows kind n) before)
      (ap (λ s. next_in compiler knows kind s place) same ∙ ap (next_in compiler knows kind last) also ∙ is)
  wrong_stops (found ∷ marks) (suc n) before shape last place end m less (one, reads) is =
      let ahead = shorter compiler knows kind shape place found one in
      ap (behind_mark (marks_within compiler knows kind n) before) one
      ∙ wrong_stops marks n (before.0 ++ found.mark ∷ [], option_or before.1 found.objection) found.shape last
      found.rest end m (omega (arith, less, ahead)) reads is

  abbrev ReadsWhole : ℕ → Objected L → Shape → List ℕ → List (MarkRead L) → Type 0
  ReadsWhole n before shape place marks = (all : List (Mark L))
      × (marks_within compiler knows kind n before shape place
      ≡ Ok (all, option_or before.1 (first_objection marks)))

  or_none : (o : Option Misreading) → o ≡ option_or o None
  or_none None = refl
  or_none (Some m) = refl

  whole_read : (marks : List (MarkRead L)) (n : ℕ) (before : Objected L) (shape last : Shape) (place end : List ℕ)
      → length place < n → ReadsTo compiler knows kind shape place marks last end
      → next_in compiler knows kind last end ≡ Ok None → ReadsWhole n before shape place marks
  whole_read marks zero before shape last place end less reads is = absurd (omega (arith, less))
  whole_read [] (suc n) before shape last place end less (same, also) is = (
    before.0,
    ap (behind_mark (marks_within compiler knows kind n) before)
        (ap (λ s. next_in compiler knows kind s place) same ∙ ap (next_in compiler knows kind last) also ∙ is)
        ∙ ap (λ (o : Option Misreading). Ok (before.0, o)) (or_none before.1),
  )
  whole_read (found ∷ marks) (suc n) before shape last place end less (one, reads) is =
      let ahead = shorter compiler knows kind shape place found one in
      let it = whole_read marks n (before.0 ++ found.mark ∷ [], option_or before.1 found.objection) found.shape last
      found.rest end (omega (arith, less, ahead)) reads is in (
        it.0,
        ap (behind_mark (marks_within compiler knows kind n) before) one ∙ it.1
            ∙ ap (λ (o : Option Misreading). Ok (it.0, o)) (or_assoc before.1 found.objection (first_objection marks)),
      )

  -- What is wrong first with a text.
  first_is : (text : List ℕ) (m : Misreading) → marks_in compiler knows kind text ≡ Err m
      → IsFirstWrong compiler knows kind text m
  unfolding marks_in
  first_is text m e = as_first (stopped (suc (length text)) ([], None) start_shape text m (omega arith) e)
    where
      as_first : Stops None start_shape text m → IsFirstWrong compiler knows kind text m
      as_first (marks, last, end, reads, inl wrong) = (marks, last, end, reads, inl wrong)
      as_first (marks, last, end, reads, inr objected) =
          (marks, last, end, reads, inr (objected.0, objection_there marks m objected.1))

  is_first : (text : List ℕ) (m : Misreading) → IsFirstWrong compiler knows kind text m
      → marks_in compiler knows kind text ≡ Err m
  unfolding marks_in
  is_first text m (marks, last, end, reads, inl wrong) =
      ap unless_objected
      (wrong_stops marks (suc (length text)) ([], None) start_shape last text end m (omega arith) reads wrong)
  is_first text m (marks, last, end, reads, inr (whole, (before, found, behind, split, none, is))) =
      let it = whole_read marks (suc (length text)) ([], None) start_shape last text end (omega arith) reads whole in
      let first : first_objection marks ≡ Some m =
      ap first_objection split ∙ objection_found before behind found m none is in
      ap unless_objected (it.1 ∙ ap (λ (o : Option Misreading). Ok (it.0, o)) first)

  fault_of : (text : List ℕ) (read : Result (List (Mark L)) Misreading) (fault : FiltersetFault)
      → result_map_both (λ (ms : List (Mark L)). ms) (fault_in text) read ≡ Err fault
      → (m : Misreading) × (read ≡ Err m) × (fault ≡ fault_in text m)
  fault_of text (Ok ms) fault e = absurd (cc)
  fault_of text (Err m) fault e = let same : fault_in text m ≡ fault = cc in (m, refl, sym same)

  pub fault_is_first : (text : List ℕ) (fault : FiltersetFault) → filter_in compiler knows kind text ≡ Err fault
      → IsFirstFault compiler knows kind text fault
  fault_is_first text fault e =
      let it = fault_of text (marks_in compiler knows kind text) fault e in
      (it.0, first_is text it.0 it.1, it.2)

  pub first_is_fault : (text : List ℕ) (fault : FiltersetFault) → IsFirstFault compiler knows kind text fault
      → filter_in compiler knows kind text ≡ Err fault
  first_is_fault text fault (m, first, is) =
      ap (result_map_both (λ (ms : List (Mark L)). ms) (fault_in text)) (is_first text m first) ∙ ap Err (sym is)

  -- What is read is written, and may be where it is.
  abbrev marks_of : List (MarkRead L) → List (Mark L)
  marks_of marks = map (λ (found : MarkRead L). found.mark) marks

  reads_marks : (marks : List (MarkRead L)) (shape last : Shape) (place end : List ℕ)
      → ReadsTo compiler knows kind shape place marks last end
      → Begins compiler place (marks_of marks) end × (shape_behind shape (marks_of marks) ≡ Some last)
  reads_marks [] shape last place end (same, also) = (also, ap Some same)
  reads_marks (found ∷ marks) shape last place end (one, reads) =
      let is = next_spelled compiler knows kind shape place found one in
      let blank = skipped_are place in
      let it = reads_marks marks found.shape last found.rest end reads in (
        (blank.0, is.spelling, found.rest, blank.1, is.spells, blank.2 ∙ ap (λ l. blank.0 ++ l) is.split, it.0),
        ap (option_and_then (λ next. shape_behind next (marks_of marks))) is.step ∙ it.1,
      )

-- Each beginning has an end.
abbrev closes : (L : Type 0) → List ℕ → List (Mark L)
closes L [] = []
closes L (around ∷ outer) = CloseMark ∷ closes L outer

closing : (L : Type 0) (outer : List ℕ) (around nots : ℕ)
    → EndsBehind (record { around = around; nots = nots; wants = false; outer = outer }) (closes L outer)
closing L [] around nots = (record { around = around; nots = nots; wants = false; outer = [] }, refl, (refl, refl))
closing L (other ∷ outer) around nots = closing L outer other 0

completed : (L : Type 0) (shape : Shape) (wants : Bool) → shape.wants ≡ wants
    → (more : List (Mark L)) × EndsBehind shape more
completed L shape false e = (
  closes L shape.outer,
  subst (λ w. EndsBehind
      (record { around = shape.around; nots = shape.nots; wants = w; outer = shape.outer }) (closes L shape.outer))
      (sym e) (closing L shape.outer shape.around shape.nots),
)
completed L shape true e = (
  Asked Always ∷ closes L shape.outer,
  subst (λ w. EndsBehind
      (record { around = shape.around; nots = shape.nots; wants = w; outer = shape.outer })
      (Asked Always ∷ closes L shape.outer))
      (sym e) (closing L shape.outer shape.around 0),
)

behind_next : {L : Type 0} (m : Mark L) (marks more : List (Mark L)) (shape next : Shape) (found : Option Shape)
    → shape_step shape m ≡ found
    → ((s : Shape) → shape_behind s marks ≡ Some next → shape_behind s (marks ++ more) ≡ shape_behind next more)
    → option_and_then (λ s. shape_behind s marks) found ≡ Some next
    → shape_behind shape (m ∷ (marks ++ more)) ≡ shape_behind next more
behind_next m marks more shape next None is known e = absurd (cc)
behind_next m marks more shape next (Some s) is known e =
    ap (option_and_then (λ x. shape_behind x (marks ++ more))) is ∙ known s e

behind_more : {L : Type 0} (marks more : List (Mark L)) (shape next : Shape) → shape_behind shape marks ≡ Some next
    → shape_behind shape (marks ++ more) ≡ shape_behind next more
behind_more [] more shape next e = let same : shape ≡ next = cc in ap (λ s. shape_behind s more) same
behind_more (m ∷ marks) more shape next e =
    behind_next m marks more shape next (shape_step shape m) refl (λ s is. behind_more marks more s next is) e

begins_filter : {L : Type 0} (marks : List (Mark L)) (shape : Shape) → shape_behind start_shape marks ≡ Some shape
    → BeginAFilter marks
begins_filter {L} marks shape is =
    let it = completed L shape shape.wants refl in
    let end = it.1 in
    (it.0, may_end_spells (marks ++ it.0) end.0 (behind_more marks it.0 start_shape shape is ∙ end.1) end.2)

pub well_begun : {L : Type 0} (compiler : Compiler L) (knows : Bool) (kind : FiltersetKind) (text : List ℕ)
    (marks : List (MarkRead L)) (last : Shape) (end : List ℕ)
    → ReadsTo compiler knows kind start_shape text marks last end → IsWellBegun compiler text marks end
well_begun compiler knows kind text marks last end reads =
    let it = reads_marks compiler knows kind marks start_shape last text end reads in
    (it.0, begins_filter (map (λ m. m.mark) marks) last it.1)
