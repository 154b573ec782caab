-- Marks that are read are written by the text, write a filter, and may be in it.
use Rattle.std.proofs.Common.{◌≡◌, ◌<◌, ◌&&◌, ℕ, zero, suc, Bool, true, false, inl, inr, List, [], ◌∷◌, ◌++◌, Option, None, Some, Result, Ok, Err, is_none, option_map, length, codes, refl, sym, ◌∙◌, ap, subst, arith, append_assoc, append-nil, if◌then◌else◌}
use Rattle.std.specs.Option.{option_or, option_and_then}
use Rattle.nextest_engines.specs.declared.queries.FiltersetKind.{FiltersetKind}
use Rattle.filter_language.specs.declared.reading.operator.Operator.{Operator}
use Rattle.filter_language.specs.declared.reading.operator.Operator.TheVariants.{And, Or, Minus, Close}
use Rattle.filter_language.specs.declared.words.Word.{Word}
use Rattle.filter_language.specs.Bans.{question_ban, mark_ban, are_allowed}
use Rattle.filter_language.specs.Filters.{MarkRead, Objected, plain, within_bound, objection_to, asked_in, opened_or_asked, negated_or_not, wanted_in, ended_in, closed_level, joined_in, joined_or_ended, joining_in, next_in, behind_mark, marks_within}
use Rattle.filter_language.specs.Grammar.{Mark, Asked, NotMark, OpenMark, CloseMark, AndMark, OrMark, MinusMark}
use Rattle.filter_language.specs.Lexing.{word_in, operator_of, foreign_or, operator_in, after_one}
use Rattle.filter_language.specs.Nesting.{Shape, negated_shape, opened_shape, complete_shape, joined_shape, closed_shape, wanted_step, joining_step, shape_behind, MayEnd, operator_mark}
use Rattle.filter_language.specs.Places.{Misreading}
use Rattle.filter_language.specs.Predicates.{Compiler, PredicateRead, predicate_in, ◌>>=◌}
use Rattle.filter_language.specs.Texts.{after_prefix, skipped}
use Rattle.filter_language.specs.Writing.{AreBlanks, SpellsMark, Writes}
use Rattle.filter_language.proofs.MarksRead.{mark_front, rest_shorter, EndsBehind}
use Rattle.filter_language.proofs.PartsOfTexts.{after_is}
use Rattle.filter_language.proofs.PredicatesSpelled.{bound_ok, either_way, predicate_spelled}
use Rattle.filter_language.proofs.Spelled.{skipped_are}

-- A mark is spelled in front of what follows it, may be where it is, and is not banned unless
-- it is objected to.
pub record IsNext {L : Type 0} (compiler : Compiler L) (knows : Bool) (kind : FiltersetKind) (wants : Bool)
    (shape : Shape) (text : List ℕ) (found : MarkRead L) : Type 0 where
  pub spelling : List ℕ
  pub spells : SpellsMark compiler found.mark spelling
  pub split : text ≡ spelling ++ found.rest
  pub step : (if wants then wanted_step shape found.mark else joining_step shape found.mark) ≡ Some found.shape
  pub fair : found.objection ≡ None → mark_ban kind knows found.mark ≡ None

-- One of two spellings.
one_spelling : (P : List ℕ → Type 0) (first second text rest : List ℕ) → P first → P second
    → after_one first second text ≡ Some rest → (spelling : List ℕ) × P spelling × (text ≡ spelling ++ rest)
one_spelling P first second text rest p q =
    either_way ((spelling : List ℕ) × P spelling × (text ≡ spelling ++ rest)) (after_prefix first text)
    (after_prefix second text) rest
    (λ e. (first, p, after_is first text rest e)) (λ e. (second, q, after_is second text rest e))

-- A mark where an operand is due.
bound_next : {L : Type 0} (compiler : Compiler L) (knows : Bool) (kind : FiltersetKind) (shape : Shape)
    (text rest spelling : List ℕ) (m : Mark L) (bound : Option Shape) (found : MarkRead L)
    → SpellsMark compiler m spelling → text ≡ spelling ++ rest → wanted_step shape m ≡ bound
    → mark_ban kind knows m ≡ None → within_bound m text rest bound ≡ Ok found
    → IsNext compiler knows kind true shape text found
bound_next compiler knows kind shape text rest spelling m None found spells split step ban e = absurd (cc)
bound_next {L} compiler knows kind shape text rest spelling m (Some next) found spells split step ban e =
    let same : plain m rest next ≡ found = cc in
    subst (IsNext compiler knows kind true shape text) same
    (record { spelling = spelling; spells = spells; split = split; step = step; fair = λ none. ban })

mapped_none : {A B : Type 0} (f : A → B) (o : Option A) → option_map f o ≡ None → o ≡ None
mapped_none f None e = refl
mapped_none f (Some x) e = absurd (cc)

asked_next : {L : Type 0} (compiler : Compiler L) (knows : Bool) (kind : FiltersetKind) (shape : Shape)
    (place text : List ℕ) (word : Option (Word × List ℕ)) (found : MarkRead L) → word_in text ≡ word
    → asked_in compiler knows kind shape place text word ≡ Ok found → IsNext compiler knows kind true shape text found
asked_next compiler knows kind shape place text None found is e = absurd (cc)
asked_next {L} compiler knows kind shape place text (Some w) found is e =
    let marked : PredicateRead L → MarkRead L = λ p. record {
      mark = Asked p.question;
      objection = option_map (objection_to text p) (question_ban kind knows p.question);
      rest = p.rest;
      shape = complete_shape shape;
    } in
    let it = bound_ok (predicate_in compiler w.0 text w.1) (λ p. Ok (marked p)) found e in
    let at = predicate_spelled compiler w.0 text w.1 it.0 is it.1 in
    let same : marked it.0 ≡ found = cc in
    subst (IsNext compiler knows kind true shape text) same (record {
      spelling = at.0;
      spells = at.1;
      split = at.2;
      step = refl;
      fair = mapped_none (objection_to text it.0) (question_ban kind knows it.0.question);
    })

opened_next : {L : Type 0} (compiler : Compiler L) (knows : Bool) (kind : FiltersetKind) (shape : Shape)
    (place text : List ℕ) (rest : Option (List ℕ)) (found : MarkRead L) → after_prefix (codes "(") text ≡ rest
    → opened_or_asked compiler knows kind shape place text rest ≡ Ok found
    → IsNext compiler knows kind true shape text found
opened_next compiler knows kind shape place text None found is e =
    asked_next compiler knows kind shape place text (word_in text) found refl e
opened_next compiler knows kind shape place text (Some rest) found is e =
    bound_next compiler knows kind shape text rest (codes "(") OpenMark (opened_shape shape) found refl
    (after_is (codes "(") text rest is) refl refl e

negated_next : {L : Type 0} (compiler : Compiler L) (knows : Bool) (kind : FiltersetKind) (shape : Shape)
    (place text : List ℕ) (rest : Option (List ℕ)) (found : MarkRead L)
    → after_one (codes "not ") (codes "!") text ≡ rest
    → negated_or_not compiler knows kind shape place text rest ≡ Ok found
    → IsNext compiler knows kind true shape text found
negated_next compiler knows kind shape place text None found is e =
    opened_next compiler knows kind shape place text (after_prefix (codes "(") text) found refl e
negated_next {L} compiler knows kind shape place text (Some rest) found is e =
    let at = one_spelling (SpellsMark compiler NotMark) (codes "not ") (codes "!") text rest (inl refl) (inr refl) is in
    bound_next compiler knows kind shape text rest at.0 NotMark (negated_shape shape) found at.1 at.2 refl refl e

wanted_next : {L : Type 0} (compiler : Compiler L) (knows : Bool) (kind : FiltersetKind) (shape : Shape)
    (place : List ℕ) (found : MarkRead L) → wanted_in compiler knows kind shape place ≡ Ok found
    → IsNext compiler knows kind true shape (skipped place) found
wanted_next compiler knows kind shape place found e =
    negated_next compiler knows kind shape place (skipped place) _ found refl e

-- An operator or a `)` is spelled.
abbrev Operates : {L : Type 0} → Compiler L → List ℕ → Operator → List ℕ → Type 0
Operates compiler text operator rest =
    (spelling : List ℕ) × SpellsMark compiler (operator_mark operator) spelling × (text ≡ spelling ++ rest)

some_operator : {L : Type 0} (compiler : Compiler L) (text : List ℕ) (operator other : Operator)
    (behind : Option (List ℕ))
    (rest : List ℕ)
    → ((r : List ℕ) → behind ≡ Some r → Operates compiler text operator r)
    → option_map {U = Operator × List ℕ} (λ r. (operator, r)) behind ≡ Some (other, rest)
    → Operates compiler text other rest
some_operator compiler text operator other None rest known e = absurd (cc)
some_operator compiler text operator other (Some r) rest known e =
    let pair : ◌≡◌ {A = Operator × List ℕ} (operator, r) (other, rest) = cc in
    let first : operator ≡ other = ap (λ (x : Operator × List ℕ). x.0) pair in
    let second : r ≡ rest = ap (λ (x : Operator × List ℕ). x.1) pair in
    let it = known r refl in (
      it.0,
      subst (λ o. SpellsMark compiler (operator_mark o) it.0) first it.1,
      it.2 ∙ ap (λ l. it.0 ++ l) second,
    )

or_spelled : {L : Type 0} (compiler : Compiler L) (text r : List ℕ)
    → option_or (after_prefix (codes "or ") text) (after_one (codes "|") (codes "+") text) ≡ Some r
    → Operates compiler text Or r
or_spelled compiler text r =
    either_way (Operates compiler text Or r) (after_prefix (codes "or ") text)
    (after_one (codes "|") (codes "+") text) r
    (λ e. (codes "or ", inl refl, after_is (codes "or ") text r e))
    (one_spelling (SpellsMark compiler OrMark) (codes "|") (codes "+") text r (inr (inl refl)) (inr (inr refl)))

operates : {L : Type 0} (compiler : Compiler L) (text rest : List ℕ) (operator : Operator)
    → operator_of text ≡ Some (operator, rest) → Operates compiler text operator rest
operates compiler text rest operator =
    either_way (Operates compiler text operator rest) _ _ (operator, rest)
    (some_operator compiler text Or operator _ rest (or_spelled compiler text))
    (either_way (Operates compiler text operator rest) _ _ (operator, rest)
    (some_operator compiler text And operator _ rest
    (λ r. one_spelling (SpellsMark compiler AndMark) (codes "and ") (codes "&") text r (inl refl) (inr refl)))
    (either_way (Operates compiler text operator rest) _ _ (operator, rest)
    (some_operator compiler text Minus operator _ rest (λ r e. (codes "-", refl, after_is (codes "-") text r e)))
    (some_operator compiler text Close operator _ rest (λ r e. (codes ")", refl, after_is (codes ")") text r e)))))

-- A mark behind an operand.
plain_next : {L : Type 0} (compiler : Compiler L) (knows : Bool) (kind : FiltersetKind) (shape next : Shape)
    (text rest : List ℕ) (m : Mark L) (found : MarkRead L)
    → ((spelling : List ℕ) × SpellsMark compiler m spelling × (text ≡ spelling ++ rest))
    → joining_step shape m ≡ Some next → mark_ban kind knows m ≡ None
    → ◌≡◌ {A = Result (Option (MarkRead L)) Misreading} (Ok (Some (plain m rest next))) (Ok (Some found))
    → IsNext compiler knows kind false shape text found
plain_next {L} compiler knows kind shape next text rest m found (spelling, spells, split) step ban e =
    let same : plain m rest next ≡ found = cc in
    subst (IsNext compiler knows kind false shape text) same
    (record { spelling = spelling; spells = spells; split = split; step = step; fair = λ none. ban })

closed_next : {L : Type 0} (compiler : Compiler L) (knows : Bool) (kind : FiltersetKind) (shape : Shape)
    (place text rest : List ℕ) (bound : Option Shape) (found : MarkRead L)
    → ((spelling : List ℕ) × SpellsMark compiler CloseMark spelling × (text ≡ spelling ++ rest))
    → closed_shape shape.outer ≡ bound → closed_level place rest bound ≡ Ok (Some found)
    → IsNext compiler knows kind false shape text found
closed_next compiler knows kind shape place text rest None found at is e = absurd (cc)
closed_next compiler knows kind shape place text rest (Some next) found at is e =
    plain_next compiler knows kind shape next text rest CloseMark found at is refl e

joined_next : {L : Type 0} (compiler : Compiler L) (knows : Bool) (kind : FiltersetKind) (shape : Shape)
    (place text rest : List ℕ) (operator : Operator) (found : MarkRead L) → Operates compiler text operator rest
    → joined_in shape place operator rest ≡ Ok (Some found) → IsNext compiler knows kind false shape text found
joined_next compiler knows kind shape place text rest Close found at e =
    closed_next compiler knows kind shape place text rest (closed_shape shape.outer) found at refl e
joined_next compiler knows kind shape place text rest And found at e =
    plain_next compiler knows kind shape (joined_shape shape) text rest AndMark found at refl refl e
joined_next compiler knows kind shape place text rest Or found at e =
    plain_next compiler knows kind shape (joined_shape shape) text rest OrMark found at refl refl e
joined_next compiler knows kind shape place text rest Minus found at e =
    plain_next compiler knows kind shape (joined_shape shape) text rest MinusMark found at refl refl e

no_more : {L : Type 0} (place outer text : List ℕ) (found : MarkRead L)
    → ended_in place outer text ≡ Ok (Some found) → ⊥
no_more place (around ∷ outer) text found e = cc
no_more place [] [] found e = cc
no_more place [] (c ∷ text) found e = cc

found_next : {L : Type 0} (compiler : Compiler L) (knows : Bool) (kind : FiltersetKind) (shape : Shape)
    (place text : List ℕ) (operator : Option (Operator × List ℕ)) (found : MarkRead L) → operator_of text ≡ operator
    → joined_or_ended shape place text operator ≡ Ok (Some found) → IsNext compiler knows kind false shape text found
found_next compiler knows kind shape place text None found is e = absurd (no_more place shape.outer text found e)
found_next compiler knows kind shape place text (Some o) found is e =
    joined_next compiler knows kind shape place text o.1 o.0 found (operates compiler text o.1 o.0 is) e

-- No mark of another language is there.
not_foreign : (text : List ℕ) (a b : Option (List ℕ)) (found : Option (Operator × List ℕ))
    → foreign_or text a b ≡ Ok found → operator_of text ≡ found
not_foreign text None None found e = cc
not_foreign text (Some r) b found e = absurd (cc)
not_foreign text None (Some r) found e = absurd (cc)

operator_found : (text : List ℕ) (found : Option (Operator × List ℕ)) → operator_in text ≡ Ok found
    → operator_of text ≡ found
operator_found text found e =
    not_foreign text (after_one (codes "||") (codes "OR ") text) (after_one (codes "&&") (codes "AND ") text) found e

joining_next : {L : Type 0} (compiler : Compiler L) (knows : Bool) (kind : FiltersetKind) (shape : Shape)
    (place : List ℕ) (found : MarkRead L) → joining_in shape place ≡ Ok (Some found)
    → IsNext compiler knows kind false shape (skipped place) found
joining_next compiler knows kind shape place found e =
    let it = bound_ok (operator_in (skipped place)) (joined_or_ended shape place (skipped place)) (Some found) e in
    found_next compiler knows kind shape place (skipped place) it.0 found
    (operator_found (skipped place) it.0 it.1) it.2

-- Any mark.
abbrev next_if : {L : Type 0} → Compiler L → Bool → FiltersetKind → Shape → List ℕ → Bool
    → Result (Option (MarkRead L)) Misreading
next_if compiler knows kind shape place wants = if wants
    then wanted_in compiler knows kind shape place >>= (λ found. Ok (Some found)) else joining_in shape place

next_spelled_if : {L : Type 0} (compiler : Compiler L) (knows : Bool) (kind : FiltersetKind) (shape : Shape)
    (place : List ℕ) (found : MarkRead L) (wants : Bool)
    → next_if compiler knows kind shape place wants ≡ Ok (Some found)
    → IsNext compiler knows kind wants shape (skipped place) found
next_spelled_if {L} compiler knows kind shape place found true e =
    let it = bound_ok (wanted_in compiler knows kind shape place) (λ (f : MarkRead L). Ok (Some f)) (Some found) e in
    let same : it.0 ≡ found = cc in
    wanted_next compiler knows kind shape place found (it.1 ∙ ap Ok same)
next_spelled_if compiler knows kind shape place found false e = joining_next compiler knows kind shape place found e

pub next_spelled : {L : Type 0} (compiler : Compiler L) (knows : Bool) (kind : FiltersetKind) (shape : Shape)
    (place : List ℕ) (found : MarkRead L) → next_in compiler knows kind shape place ≡ Ok (Some found)
    → IsNext compiler knows kind shape.wants shape (skipped place) found
unfolding next_in
next_spelled compiler knows kind shape place found e =
    next_spelled_if compiler knows kind shape place found shape.wants e

-- The end.
abbrev IsEnd : Shape → List ℕ → Type 0
IsEnd shape text = (shape.outer ≡ []) × (text ≡ [])

level_ends : (L : Type 0) (place rest : List ℕ) (bound : Option Shape)
    → closed_level {L = L} place rest bound ≡ Ok None → ⊥
level_ends L place rest None e = cc
level_ends L place rest (Some next) e = cc

operator_ends : (L : Type 0) (shape : Shape) (place rest : List ℕ) (operator : Operator)
    → joined_in {L = L} shape place operator rest ≡ Ok None → ⊥
operator_ends L shape place rest Close e = level_ends L place rest (closed_shape shape.outer) e
operator_ends L shape place rest And e = cc
operator_ends L shape place rest Or e = cc
operator_ends L shape place rest Minus e = cc

no_outer : (L : Type 0) (place outer text : List ℕ) → ended_in {L = L} place outer text ≡ Ok None
    → (outer ≡ []) × (text ≡ [])
no_outer L place (around ∷ outer) text e = absurd (cc)
no_outer L place [] [] e = (refl, refl)
no_outer L place [] (c ∷ text) e = absurd (cc)

found_ends : (L : Type 0) (shape : Shape) (place text : List ℕ) (operator : Option (Operator × List ℕ))
    → joined_or_ended {L = L} shape place text operator ≡ Ok None → IsEnd shape text
found_ends L shape place text None e = no_outer L place shape.outer text e
found_ends L shape place text (Some o) e = absurd (operator_ends L shape place o.1 o.0 e)

ends_if : {L : Type 0} (compiler : Compiler L) (knows : Bool) (kind : FiltersetKind) (shape : Shape)
    (place : List ℕ) (wants : Bool) → next_if compiler knows kind shape place wants ≡ Ok None
    → (wants ≡ false) × IsEnd shape (skipped place)
ends_if {L} compiler knows kind shape place true e =
    let it = bound_ok (wanted_in compiler knows kind shape place) (λ (f : MarkRead L). Ok (Some f)) None e in
    absurd (cc)
ends_if {L} compiler knows kind shape place false e =
    let it = bound_ok (operator_in (skipped place)) (joined_or_ended {L = L} shape place (skipped place)) None e in
    (refl, found_ends L shape place (skipped place) it.0 it.2)

next_ends : {L : Type 0} (compiler : Compiler L) (knows : Bool) (kind : FiltersetKind) (shape : Shape)
    (place : List ℕ) → next_in compiler knows kind shape place ≡ Ok None → MayEnd shape × AreBlanks place
unfolding next_in
next_ends compiler knows kind shape place e =
    let it = ends_if compiler knows kind shape place shape.wants e in
    let blank = skipped_are place in
    let whole : place ≡ blank.0 = blank.2 ∙ ap (λ l. blank.0 ++ l) it.1.1 ∙ append-nil blank.0 in
    ((it.0, it.1.0), subst AreBlanks (sym whole) blank.1)

-- All marks.
or_left : {X : Type 0} (a b : Option X) → option_or a b ≡ None → a ≡ None
or_left None b e = refl
or_left (Some x) b e = absurd (cc)

or_right : {X : Type 0} (a b : Option X) → option_or a b ≡ None → b ≡ None
or_right None b e = e
or_right (Some x) b e = absurd (cc)

pub record MarksSpelled {L : Type 0} (compiler : Compiler L) (knows : Bool) (kind : FiltersetKind)
    (before : Objected L) (shape : Shape) (place : List ℕ) (marks : List (Mark L)) : Type 0 where
  pub more : List (Mark L)
  pub whole : marks ≡ before.0 ++ more
  pub writes : Writes compiler place more
  pub ends : EndsBehind shape more
  pub allowed : are_allowed kind knows more ≡ true
  pub unobjected : before.1 ≡ None

abbrev AreSpelled : {L : Type 0} → Compiler L → Bool → FiltersetKind → ℕ → Type 0
AreSpelled {L} compiler knows kind n = (before : Objected L) (shape : Shape) (place : List ℕ) (marks : List (Mark L))
    → length place < n → marks_within compiler knows kind n before shape place ≡ Ok (marks, None)
    → MarksSpelled compiler knows kind before shape place marks

mark_spelled : {L : Type 0} (compiler : Compiler L) (knows : Bool) (kind : FiltersetKind) (n : ℕ)
    (before : Objected L) (shape : Shape) (place : List ℕ) (marks : List (Mark L)) (found : MarkRead L)
    → IsNext compiler knows kind shape.wants shape (skipped place) found
    → (length found.rest < length place → MarksSpelled compiler knows kind
    (before.0 ++ found.mark ∷ [], option_or before.1 found.objection) found.shape found.rest marks)
    → MarksSpelled compiler knows kind before shape place marks
mark_spelled compiler knows kind n before shape place marks found is known =
    let blank = skipped_are place in
    let split : place ≡ blank.0 ++ (is.spelling ++ found.rest) = blank.2 ∙ ap (λ l. blank.0 ++ l) is.split in
    let it = known (rest_shorter blank.0 is.spelling found.rest place
    (mark_front compiler found.mark is.spelling is.spells) split) in
    let ban = is.fair (or_right before.1 found.objection it.unobjected) in
    record {
      more = found.mark ∷ it.more;
      whole = it.whole ∙ append_assoc before.0 (found.mark ∷ []) it.more;
      writes = (blank.0, is.spelling, found.rest, blank.1, is.spells, split, it.writes);
      ends = (it.ends.0, ap (option_and_then (λ next. shape_behind next it.more)) is.step ∙ it.ends.1, it.ends.2);
      allowed = ap (λ o. is_none o && are_allowed kind knows it.more) ban ∙ it.allowed;
      unobjected = or_left before.1 found.objection it.unobjected;
    }

step_spelled : {L : Type 0} (compiler : Compiler L) (knows : Bool) (kind : FiltersetKind) (n : ℕ)
    → AreSpelled compiler knows kind n → (before : Objected L) (shape : Shape) (place : List ℕ) (marks : List (Mark L))
    (read : Result (Option (MarkRead L)) Misreading) → length place < suc n
    → next_in compiler knows kind shape place ≡ read
    → behind_mark (marks_within compiler knows kind n) before read ≡ Ok (marks, None)
    → MarksSpelled compiler knows kind before shape place marks
step_spelled compiler knows kind n known before shape place marks (Ok (Some found)) less is e =
    mark_spelled compiler knows kind n before shape place marks found
    (next_spelled compiler knows kind shape place found is)
    (λ shorter. known (before.0 ++ found.mark ∷ [], option_or before.1 found.objection) found.shape found.rest marks
    (omega (arith, less, shorter)) e)
step_spelled {L} compiler knows kind n known before shape place marks (Ok None) less is e =
    let same : ◌≡◌ {A = Objected L} before (marks, None) = cc in
    let end = next_ends compiler knows kind shape place is in
    record {
      more = [];
      whole = sym (ap (λ (b : Objected L). b.0) same) ∙ sym (append-nil before.0);
      writes = end.1;
      ends = (shape, refl, end.0);
      allowed = refl;
      unobjected = ap (λ (b : Objected L). b.1) same;
    }
step_spelled compiler knows kind n known before shape place marks (Err m) less is e = absurd (cc)

pub marks_spelled : {L : Type 0} (compiler : Compiler L) (knows : Bool) (kind : FiltersetKind) (n : ℕ)
    → AreSpelled compiler knows kind n
marks_spelled compiler knows kind zero before shape place marks less e = absurd (omega (arith, less))
marks_spelled compiler knows kind (suc n) before shape place marks less e =
    step_spelled compiler knows kind n (marks_spelled compiler knows kind n) before shape place marks
    (next_in compiler knows kind shape place) less refl e
