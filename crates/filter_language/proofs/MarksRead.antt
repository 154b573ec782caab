-- Marks that a text writes, and that write a filter that may be there, are read.
use Rattle.std.proofs.Common.{◌≡◌, ◌<◌, ◌+◌, ◌==◌, ℕ, zero, suc, Bool, true, false, inl, inr, List, [], ◌∷◌, ◌++◌, Option, None, Some, Result, Ok, is_none, option_map, length, codes, refl, sym, ◌∙◌, ap, subst, arith, append_assoc, append-nil, length-append, if◌then◌else◌}
use Rattle.std.proofs.lemmas.Bool.Decides.{eqb_tells}
use Rattle.std.specs.Option.{option_or, option_and_then}
use Rattle.nextest_engines.specs.declared.queries.FiltersetKind.{FiltersetKind}
use Rattle.filter_language.specs.Bans.{question_ban, mark_ban, are_allowed}
use Rattle.filter_language.specs.Filters.{MarkRead, plain, within_bound, objection_to, asked_in, opened_or_asked, negated_or_not, wanted_in, ended_in, closed_level, joined_or_ended, next_in, behind_mark, marks_within}
use Rattle.filter_language.specs.Formula.{Question}
use Rattle.filter_language.specs.Grammar.{Mark, Asked, NotMark, OpenMark, CloseMark, AndMark, OrMark, MinusMark}
use Rattle.filter_language.specs.Lexing.{foreign_or, operator_in, after_one}
use Rattle.filter_language.specs.Nesting.{Shape, negated_shape, opened_shape, complete_shape, joined_shape, wanted_step, joining_step, shape_step, shape_behind, MayEnd}
use Rattle.filter_language.specs.Places.{Misreading}
use Rattle.filter_language.specs.Predicates.{Compiler, PredicateRead, ◌>>=◌}
use Rattle.filter_language.specs.Texts.{after_prefix, is_blank, skipped}
use Rattle.filter_language.specs.Writing.{AreBlanks, SpellsMark, Writes}
use Rattle.filter_language.proofs.Marks.{next_wanted, next_joining}
use Rattle.filter_language.proofs.PredicatesRead.{IsAsked, question_read}
use Rattle.filter_language.proofs.Spelled.{both_true, skips}

-- What a mark begins with is not a blank.
pub record IsMarkFront (spelling : List ℕ) : Type 0 where
  pub first : ℕ
  pub more : List ℕ
  pub is : spelling ≡ first ∷ more
  pub unblank : (text : List ℕ) → is_blank first text ≡ false

front_is : (spelling : List ℕ) (c : ℕ) (more : List ℕ) → spelling ≡ c ∷ more
    → ((text : List ℕ) → is_blank c text ≡ false) → IsMarkFront spelling
front_is spelling c more is unblank = record { first = c; more = more; is = is; unblank = unblank }

pub mark_front : {L : Type 0} (compiler : Compiler L) (m : Mark L) (spelling : List ℕ) → SpellsMark compiler m spelling
    → IsMarkFront spelling
mark_front compiler (Asked q) spelling is =
    let it = question_read compiler q spelling [] is in
    front_is spelling it.head.first it.head.more (sym (append-nil spelling) ∙ it.head.begins) it.head.unblank
mark_front compiler NotMark spelling (inl is) = front_is spelling 110 (codes "ot ") is (λ text. refl)
mark_front compiler NotMark spelling (inr is) = front_is spelling 33 [] is (λ text. refl)
mark_front compiler OpenMark spelling is = front_is spelling 40 [] is (λ text. refl)
mark_front compiler CloseMark spelling is = front_is spelling 41 [] is (λ text. refl)
mark_front compiler AndMark spelling (inl is) = front_is spelling 97 (codes "nd ") is (λ text. refl)
mark_front compiler AndMark spelling (inr is) = front_is spelling 38 [] is (λ text. refl)
mark_front compiler OrMark spelling (inl is) = front_is spelling 111 (codes "r ") is (λ text. refl)
mark_front compiler OrMark spelling (inr (inl is)) = front_is spelling 124 [] is (λ text. refl)
mark_front compiler OrMark spelling (inr (inr is)) = front_is spelling 43 [] is (λ text. refl)
mark_front compiler MinusMark spelling is = front_is spelling 45 [] is (λ text. refl)

unblank_stays : (c : ℕ) (text : List ℕ) → is_blank c text ≡ false → skipped (c ∷ text) ≡ c ∷ text
unblank_stays c text is = rw is refl

-- A mark is where the blanks before it end.
pub at_mark : (blanks spelling rest place : List ℕ) → AreBlanks blanks → IsMarkFront spelling
    → place ≡ blanks ++ (spelling ++ rest) → skipped place ≡ spelling ++ rest
at_mark blanks spelling rest place are front split =
    let begins : spelling ++ rest ≡ front.first ∷ (front.more ++ rest) = ap (λ l. l ++ rest) front.is in
    ap skipped split ∙ skips blanks (spelling ++ rest) are ∙ ap skipped begins
    ∙ unblank_stays front.first (front.more ++ rest) (front.unblank (front.more ++ rest)) ∙ sym begins

pub rest_shorter : (blanks spelling rest place : List ℕ) → IsMarkFront spelling
    → place ≡ blanks ++ (spelling ++ rest) → length rest < length place
rest_shorter blanks spelling rest place front split =
    let whole : length place ≡ length blanks + length (spelling ++ rest) =
    ap length split ∙ length-append blanks (spelling ++ rest) in
    let begins : length (spelling ++ rest) ≡ suc (length (front.more ++ rest)) =
    ap (λ l. length (l ++ rest)) front.is in
    let more : length (front.more ++ rest) ≡ length front.more + length rest = length-append front.more rest in
    omega (arith, whole, begins, more)

-- A mark where an operand is due.
bound_is : {L : Type 0} (m : Mark L) (from rest : List ℕ) (found : Option Shape) (next : Shape) → found ≡ Some next
    → within_bound m from rest found ≡ Ok (plain m rest next)
bound_is m from rest found next is = ap (within_bound m from rest) is

asked_read : {L : Type 0} (compiler : Compiler L) (knows : Bool) (kind : FiltersetKind) (shape next : Shape)
    (place text rest : List ℕ) (q : Question L) → IsAsked compiler q text rest → question_ban kind knows q ≡ None
    → complete_shape shape ≡ next
    → negated_or_not compiler knows kind shape place text (after_one (codes "not ") (codes "!") text)
    ≡ Ok (plain (Asked q) rest next)
asked_read {L} compiler knows kind shape next place text rest q is ban same =
    let reading : PredicateRead L → Result (MarkRead L) Misreading = λ p. Ok (record {
      mark = Asked p.question;
      objection = option_map (objection_to text p) (question_ban kind knows p.question);
      rest = p.rest;
      shape = complete_shape shape;
    }) in
    let marked : Question L → List ℕ → Option Misreading → Shape → Result (MarkRead L) Misreading =
    λ question behind objection s. Ok (record {
      mark = Asked question;
      objection = objection;
      rest = behind;
      shape = s;
    }) in
    let none : question_ban kind knows is.found.question ≡ None = ap (question_ban kind knows) is.question ∙ ban in
    ap (negated_or_not compiler knows kind shape place text) is.head.no_not
    ∙ ap (opened_or_asked compiler knows kind shape place text) is.head.no_open
    ∙ ap (asked_in compiler knows kind shape place text) is.head.is_word
    ∙ ap (λ r. r >>= reading) is.is_found
    ∙ ap (λ o. marked is.found.question is.found.rest (option_map (objection_to text is.found) o)
    (complete_shape shape))
    none
    ∙ ap (λ x. marked x is.found.rest None (complete_shape shape)) is.question
    ∙ ap (λ x. marked q x None (complete_shape shape)) is.ends
    ∙ ap (λ x. marked q rest None x) same

wanted_at : {L : Type 0} (compiler : Compiler L) (knows : Bool) (kind : FiltersetKind) (shape next : Shape)
    (place spelling rest : List ℕ) (m : Mark L) → SpellsMark compiler m spelling → mark_ban kind knows m ≡ None
    → wanted_step shape m ≡ Some next
    → negated_or_not compiler knows kind shape place (spelling ++ rest)
    (after_one (codes "not ") (codes "!") (spelling ++ rest))
    ≡ Ok (plain m rest next)
wanted_at compiler knows kind shape next place spelling rest (Asked q) is ban step =
    let same : complete_shape shape ≡ next = cc in
    asked_read compiler knows kind shape next place (spelling ++ rest) rest q
    (question_read compiler q spelling rest is) ban same
wanted_at compiler knows kind shape next place spelling rest NotMark (inl is) ban step =
    ap (λ l. negated_or_not compiler knows kind shape place (l ++ rest)
    (after_one (codes "not ") (codes "!") (l ++ rest))) is
    ∙ bound_is NotMark (codes "not " ++ rest) rest (negated_shape shape) next step
wanted_at compiler knows kind shape next place spelling rest NotMark (inr is) ban step =
    ap (λ l. negated_or_not compiler knows kind shape place (l ++ rest)
    (after_one (codes "not ") (codes "!") (l ++ rest))) is
    ∙ bound_is NotMark (codes "!" ++ rest) rest (negated_shape shape) next step
wanted_at compiler knows kind shape next place spelling rest OpenMark is ban step =
    ap (λ l. negated_or_not compiler knows kind shape place (l ++ rest)
    (after_one (codes "not ") (codes "!") (l ++ rest))) is
    ∙ bound_is OpenMark (codes "(" ++ rest) rest (opened_shape shape) next step
wanted_at compiler knows kind shape next place spelling rest CloseMark is ban step = absurd (cc)
wanted_at compiler knows kind shape next place spelling rest AndMark is ban step = absurd (cc)
wanted_at compiler knows kind shape next place spelling rest OrMark is ban step = absurd (cc)
wanted_at compiler knows kind shape next place spelling rest MinusMark is ban step = absurd (cc)

wanted_read : {L : Type 0} (compiler : Compiler L) (knows : Bool) (kind : FiltersetKind) (shape next : Shape)
    (place text rest spelling : List ℕ) (m : Mark L) → SpellsMark compiler m spelling → mark_ban kind knows m ≡ None
    → wanted_step shape m ≡ Some next → text ≡ spelling ++ rest → skipped place ≡ text
    → wanted_in compiler knows kind shape place ≡ Ok (plain m rest next)
wanted_read compiler knows kind shape next place text rest spelling m is ban step split at =
    ap (λ l. negated_or_not compiler knows kind shape place l (after_one (codes "not ") (codes "!") l)) (at ∙ split)
    ∙ wanted_at compiler knows kind shape next place spelling rest m is ban step

-- A mark behind an operand. No `|` follows a `|`, and no `&` a `&`.
abbrev IsClear : List ℕ → Type 0
IsClear rest = (after_prefix (codes "|") rest ≡ None) × (after_prefix (codes "&") rest ≡ None)

abbrev NeedsClear : {L : Type 0} → Mark L → List ℕ → Type 0
NeedsClear (Asked q) rest = Unit {0}
NeedsClear NotMark rest = Unit {0}
NeedsClear OpenMark rest = Unit {0}
NeedsClear CloseMark rest = Unit {0}
NeedsClear AndMark rest = IsClear rest
NeedsClear OrMark rest = IsClear rest
NeedsClear MinusMark rest = Unit {0}

abbrev joined_at : {L : Type 0} → Shape → List ℕ → List ℕ → Result (Option (MarkRead L)) Misreading
joined_at shape place text = operator_in text >>= joined_or_ended shape place text

some_plain : {L : Type 0} (m : Mark L) (rest : List ℕ) (a b : Shape) → ◌≡◌ {A = Option Shape} (Some a) (Some b)
    → ◌≡◌ {A = Result (Option (MarkRead L)) Misreading} (Ok (Some (plain m rest a))) (Ok (Some (plain m rest b)))
some_plain m rest a b same = let it : a ≡ b = cc in ap (λ s. Ok (Some (plain m rest s))) it

joining_at : {L : Type 0} (compiler : Compiler L) (shape next : Shape) (place spelling rest : List ℕ) (m : Mark L)
    → SpellsMark compiler m spelling → NeedsClear m rest → joining_step shape m ≡ Some next
    → joined_at {L = L} shape place (spelling ++ rest) ≡ Ok (Some (plain m rest next))
joining_at {L} compiler shape next place spelling rest CloseMark is clear step =
    ap (λ l. joined_at {L = L} shape place (l ++ rest)) is ∙ ap (closed_level place rest) step
joining_at {L} compiler shape next place spelling rest AndMark (inl is) clear step =
    ap (λ l. joined_at {L = L} shape place (l ++ rest)) is ∙ some_plain AndMark rest (joined_shape shape) next step
joining_at {L} compiler shape next place spelling rest AndMark (inr is) clear step =
    ap (λ l. joined_at {L = L} shape place (l ++ rest)) is
    ∙ ap (λ o. foreign_or (38 ∷ rest) None (option_or o None) >>= joined_or_ended {L = L} shape place
    (38 ∷ rest)) clear.1
    ∙ some_plain AndMark rest (joined_shape shape) next step
joining_at {L} compiler shape next place spelling rest OrMark (inl is) clear step =
    ap (λ l. joined_at {L = L} shape place (l ++ rest)) is ∙ some_plain OrMark rest (joined_shape shape) next step
joining_at {L} compiler shape next place spelling rest OrMark (inr (inl is)) clear step =
    ap (λ l. joined_at {L = L} shape place (l ++ rest)) is
    ∙ ap (λ o. foreign_or (124 ∷ rest) (option_or o None) None >>= joined_or_ended {L = L} shape place (124 ∷ rest))
    clear.0
    ∙ some_plain OrMark rest (joined_shape shape) next step
joining_at {L} compiler shape next place spelling rest OrMark (inr (inr is)) clear step =
    ap (λ l. joined_at {L = L} shape place (l ++ rest)) is ∙ some_plain OrMark rest (joined_shape shape) next step
joining_at {L} compiler shape next place spelling rest MinusMark is clear step =
    ap (λ l. joined_at {L = L} shape place (l ++ rest)) is ∙ some_plain MinusMark rest (joined_shape shape) next step
joining_at compiler shape next place spelling rest (Asked q) is clear step = absurd (cc)
joining_at compiler shape next place spelling rest NotMark is clear step = absurd (cc)
joining_at compiler shape next place spelling rest OpenMark is clear step = absurd (cc)

-- The next mark.
next_read : {L : Type 0} (compiler : Compiler L) (knows : Bool) (kind : FiltersetKind) (shape next : Shape)
    (place spelling rest : List ℕ) (m : Mark L) (wants : Bool) → shape.wants ≡ wants → SpellsMark compiler m spelling
    → skipped place ≡ spelling ++ rest → mark_ban kind knows m ≡ None
    → (wants ≡ false → NeedsClear m rest)
    → (if wants then wanted_step shape m else joining_step shape m) ≡ Some next
    → next_in compiler knows kind shape place ≡ Ok (Some (plain m rest next))
next_read compiler knows kind shape next place spelling rest m true wants is at ban clear step =
    next_wanted compiler knows kind shape place (plain m rest next) wants
    (wanted_read compiler knows kind shape next place (spelling ++ rest) rest spelling m is ban step refl at)
next_read {L} compiler knows kind shape next place spelling rest m false wants is at ban clear step =
    next_joining compiler knows kind shape place wants
    ∙ ap (joined_at {L = L} shape place) at
    ∙ joining_at compiler shape next place spelling rest m is (clear refl) step

-- What follows an operator begins with no `|` and no `&`.
blank_differs : (c d : ℕ) (text : List ℕ) → is_blank c text ≡ true → ((more : List ℕ) → is_blank d more ≡ false)
    → (d == c) ≡ false
blank_differs c d text is other = elim (eqb_tells d c) [
  | inl same ↦ absurd (let clash : true ≡ false = sym is ∙ ap (λ x. is_blank x text) (sym same.1) ∙ other text in cc)
  | inr it ↦ it.0
]

prefix_none : (d c : ℕ) (more : List ℕ) → (d == c) ≡ false → after_prefix (d ∷ []) (c ∷ more) ≡ None
prefix_none d c more other = rw other refl

clear_behind : (blanks text : List ℕ) → AreBlanks blanks → IsClear text → IsClear (blanks ++ text)
clear_behind [] text are clear = clear
clear_behind (c ∷ blanks) text are clear = (
  prefix_none 124 c (blanks ++ text) (blank_differs c 124 blanks are.0 (λ more. refl)),
  prefix_none 38 c (blanks ++ text) (blank_differs c 38 blanks are.0 (λ more. refl)),
)

operand_clear : {L : Type 0} (compiler : Compiler L) (shape next : Shape) (m : Mark L) (spelling rest : List ℕ)
    → SpellsMark compiler m spelling → wanted_step shape m ≡ Some next → IsClear (spelling ++ rest)
operand_clear compiler shape next (Asked q) spelling rest is step =
    let it = question_read compiler q spelling rest is in (it.head.no_bar, it.head.no_and)
operand_clear compiler shape next NotMark spelling rest (inl is) step =
    subst (λ l. IsClear (l ++ rest)) (sym is) (refl, refl)
operand_clear compiler shape next NotMark spelling rest (inr is) step =
    subst (λ l. IsClear (l ++ rest)) (sym is) (refl, refl)
operand_clear compiler shape next OpenMark spelling rest is step =
    subst (λ l. IsClear (l ++ rest)) (sym is) (refl, refl)
operand_clear compiler shape next CloseMark spelling rest is step = absurd (cc)
operand_clear compiler shape next AndMark spelling rest is step = absurd (cc)
operand_clear compiler shape next OrMark spelling rest is step = absurd (cc)
operand_clear compiler shape next MinusMark spelling rest is step = absurd (cc)

-- Behind a mark are others, up to where a filter may end.
abbrev pub EndsBehind : {L : Type 0} → Shape → List (Mark L) → Type 0
EndsBehind shape marks = (final : Shape) × (shape_behind shape marks ≡ Some final) × MayEnd final

step_behind : {L : Type 0} (shape : Shape) (m : Mark L) (marks : List (Mark L)) (final : Shape) (found : Option Shape)
    → shape_step shape m ≡ found → option_and_then (λ next. shape_behind next marks) found ≡ Some final → MayEnd final
    → (next : Shape) × (shape_step shape m ≡ Some next) × EndsBehind next marks
step_behind shape m marks final None is more end = absurd (cc)
step_behind shape m marks final (Some next) is more end = (next, is, (final, more, end))

steps_behind : {L : Type 0} (shape : Shape) (m : Mark L) (marks : List (Mark L)) → EndsBehind shape (m ∷ marks)
    → (next : Shape) × (shape_step shape m ≡ Some next) × EndsBehind next marks
steps_behind shape m marks (final, more, end) = step_behind shape m marks final (shape_step shape m) refl more end

clear_rest : {L : Type 0} (compiler : Compiler L) (shape : Shape) (rest : List ℕ) (marks : List (Mark L))
    → shape.wants ≡ true → EndsBehind shape marks → Writes compiler rest marks → IsClear rest
clear_rest compiler shape rest [] wants (final, is, end) writes =
    let same : shape ≡ final = cc in
    absurd (let clash : true ≡ false = sym wants ∙ ap (λ (s : Shape). s.wants) same ∙ end.0 in cc)
clear_rest compiler shape rest (m ∷ marks) wants ends (blanks, spelling, more, are, is, split, writes) =
    let it = steps_behind shape m marks ends in
    let step : wanted_step shape m ≡ Some it.0 =
    sym (ap (λ b. if b then wanted_step shape m else joining_step shape m) wants) ∙ it.1 in
    subst IsClear (sym split)
    (clear_behind blanks (spelling ++ more) are (operand_clear compiler shape it.0 m spelling more is step))

joined_wants : (shape next : Shape) → ◌≡◌ {A = Option Shape} (Some (joined_shape shape)) (Some next) → next.wants ≡ true
joined_wants shape next is =
    let same : joined_shape shape ≡ next = cc in sym (ap (λ (s : Shape). s.wants) same)

needs_clear : {L : Type 0} (compiler : Compiler L) (shape next : Shape) (rest : List ℕ) (m : Mark L)
    (marks : List (Mark L)) → joining_step shape m ≡ Some next → EndsBehind next marks
    → Writes compiler rest marks → NeedsClear m rest
needs_clear compiler shape next rest (Asked q) marks step ends writes = tt
needs_clear compiler shape next rest NotMark marks step ends writes = tt
needs_clear compiler shape next rest OpenMark marks step ends writes = tt
needs_clear compiler shape next rest CloseMark marks step ends writes = tt
needs_clear compiler shape next rest AndMark marks step ends writes =
    clear_rest compiler next rest marks (joined_wants shape next step) ends writes
needs_clear compiler shape next rest OrMark marks step ends writes =
    clear_rest compiler next rest marks (joined_wants shape next step) ends writes
needs_clear compiler shape next rest MinusMark marks step ends writes = tt

-- The end.
pub blanks_end : (text : List ℕ) → AreBlanks text → skipped text ≡ []
blanks_end text are = ap skipped (sym (append-nil text)) ∙ skips text [] are

ended_read : (L : Type 0) (compiler : Compiler L) (knows : Bool) (kind : FiltersetKind) (shape : Shape)
    (place : List ℕ) → AreBlanks place → MayEnd shape → next_in compiler knows kind shape place ≡ Ok None
ended_read L compiler knows kind shape place are end =
    next_joining compiler knows kind shape place end.0
    ∙ ap (joined_at {L = L} shape place) (blanks_end place are)
    ∙ ap (λ outer. ended_in {L = L} place outer []) end.1

none_is : {X : Type 0} (o : Option X) → is_none o ≡ true → o ≡ None
none_is None e = refl
none_is (Some x) e = absurd (cc)

pub marks_read : {L : Type 0} (compiler : Compiler L) (knows : Bool) (kind : FiltersetKind)
    (marks before : List (Mark L))
    (n : ℕ) (shape : Shape) (place : List ℕ) → length place < n → Writes compiler place marks
    → EndsBehind shape marks → are_allowed kind knows marks ≡ true
    → marks_within compiler knows kind n (before, None) shape place ≡ Ok (before ++ marks, None)
marks_read compiler knows kind marks before zero shape place less writes ends allowed = absurd (omega (arith, less))
marks_read {L} compiler knows kind [] before (suc n) shape place less writes (final, is, end) allowed =
    let same : final ≡ shape = cc in
    ap (behind_mark (marks_within compiler knows kind n) (before, None))
    (ended_read L compiler knows kind shape place writes (subst MayEnd same end))
    ∙ ap (λ l. Ok (l, None)) (sym (append-nil before))
marks_read compiler knows kind (m ∷ marks) before (suc n) shape place less
    (blanks, spelling, rest, are, is, split, writes) ends allowed =
    let step = steps_behind shape m marks ends in
    let may = both_true (is_none (mark_ban kind knows m)) (are_allowed kind knows marks) allowed in
    let front = mark_front compiler m spelling is in
    let shorter = rest_shorter blanks spelling rest place front split in
    ap (behind_mark (marks_within compiler knows kind n) (before, None))
    (next_read compiler knows kind shape step.0 place spelling rest m shape.wants refl is
    (at_mark blanks spelling rest place are front split) (none_is (mark_ban kind knows m) may.0)
    (λ joins. needs_clear compiler shape step.0 rest m marks
    (sym (ap (λ b. if b then wanted_step shape m else joining_step shape m) joins) ∙ step.1) step.2 writes)
    step.1)
    ∙ marks_read compiler knows kind marks (before ++ m ∷ []) n step.0 rest (omega (arith, less, shorter)) writes step.2
    may.1
    ∙ ap (λ l. Ok (l, None)) (append_assoc before (m ∷ []) marks)
