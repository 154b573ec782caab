-- A default filter with no part that only a test can decide has a known value for each binary.
use Rattle.std.specs.Prelude.{◌≡◌, ◌==◌, ℕ, zero, suc, Bool, true, false, List, [], ◌∷◌, ◌++◌, Option, None, Some, Result, Ok, Err, IsSome, length, option_map, codes, refl, if◌then◌else◌}
use Rattle.std.proofs.Common.{◌∙◌, ap}
use Rattle.std.specs.Option.{option_or}
use Rattle.std.specs.Result.{result_map_both}
use Rattle.nextest_engines.specs.Engines.{Binary}
use Rattle.nextest_engines.specs.declared.queries.FiltersetKind.{FiltersetKind}
use Rattle.nextest_engines.specs.declared.queries.FiltersetKind.TheVariants.{DefaultFilter}
use Rattle.filter_language.specs.declared.fault.FiltersetFault.{FiltersetFault}
use Rattle.filter_language.specs.declared.reading.operator.Operator.{Operator}
use Rattle.filter_language.specs.declared.reading.operator.Operator.TheVariants.{And, Or, Minus, Close}
use Rattle.filter_language.specs.declared.words.Field.{Field}
use Rattle.filter_language.specs.declared.words.Field.TheVariants.{TestName, Package, Deps, Rdeps, BinaryId, BinaryName, Kind, Group}
use Rattle.filter_language.specs.declared.words.Word.{Word}
use Rattle.filter_language.specs.Bans.{question_ban, mark_ban}
use Rattle.filter_language.specs.Evaluation.{Known, Stack, fresh, said, flipped_if, with_operand, closed_by, with_mark, with_marks, marks_value}
use Rattle.filter_language.specs.Filters.{MarkRead, Objected, within_bound, objection_to, asked_in, opened_or_asked, negated_or_not, wanted_in, ended_in, closed_level, joined_in, joined_or_ended, joining_in, next_in, behind_mark, marks_within, unless_objected, marks_in, fault_in, filter_in}
use Rattle.filter_language.specs.Filtersets.{subject_of, marks_value_beside}
use Rattle.filter_language.specs.Formula.{Question, Always, Never, TheDefault, OfPlatform, OfName}
use Rattle.filter_language.specs.Grammar.{Mark, Asked, NotMark, OpenMark, CloseMark, AndMark, OrMark, MinusMark}
use Rattle.filter_language.specs.Leaves.{written_if_test, question_leaves, mark_leaves, leaves}
use Rattle.filter_language.specs.Lexing.{word_in, operator_in, after_one}
use Rattle.filter_language.specs.Nesting.{Shape, start_shape, negated_shape, opened_shape, closed_shape}
use Rattle.filter_language.specs.Places.{Misreading}
use Rattle.filter_language.specs.Predicates.{Compiler, PredicateRead, predicate_in, ◌>>=◌}
use Rattle.filter_language.specs.Texts.{after_prefix, skipped}
use Rattle.filter_language.specs.Values.{Subject, known_and, known_or, field_answer, answer}

-- What joins known values is known, also the other way round.
and_known : (a b : Option Bool) → IsSome a → IsSome b → IsSome (known_and a b)
and_known None b is also = absurd (cc)
and_known (Some false) b is also = refl
and_known (Some true) b is also = also

or_known : (a b : Option Bool) → IsSome a → IsSome b → IsSome (known_or a b)
or_known None b is also = absurd (cc)
or_known (Some true) b is also = refl
or_known (Some false) b is also = also

flip_known : (b : Bool) (a : Option Bool) → IsSome a → IsSome (flipped_if b a)
flip_known false a is = is
flip_known true None is = absurd (cc)
flip_known true (Some x) is = refl

-- Of a level, and of those around it, all is known.
abbrev IsKnown : Known → Type 0
IsKnown k = IsSome k.either × IsSome k.both

abbrev AreKnown : List Known → Type 0
AreKnown [] = Unit {0}
AreKnown (k ∷ ks) = IsKnown k × AreKnown ks

abbrev StackKnown : Stack → Type 0
StackKnown s = IsKnown s.inner × AreKnown s.outer

said_known : (k : Known) → IsKnown k → IsSome (said k)
said_known k is = or_known k.either k.both is.0 is.1

operand_known : (k : Known) (x : Option Bool) → IsKnown k → IsSome x → IsKnown (with_operand k x)
operand_known k x is also =
    (is.0, and_known k.both (flipped_if k.negated x) is.1 (flip_known k.negated x also))

opened_known : (s : Stack) (full : Bool) → StackKnown s
    → StackKnown (if full then s else record { inner = fresh; outer = s.inner ∷ s.outer })
opened_known s true is = is
opened_known s false is = ((refl, refl), (is.0, is.1))

closed_known : (inner : Known) (outer : List Known) → IsKnown inner → AreKnown outer
    → StackKnown (closed_by inner outer)
closed_known inner [] is around = (is, tt)
closed_known inner (k ∷ outer) is around =
    (operand_known k (said inner) around.0 (said_known inner is), around.1)

-- The predicate of a mark has a known value.
abbrev IsAnswered : {L : Type 0} → (Question L → Option Bool) → Mark L → Type 0
IsAnswered answers (Asked q) = IsSome (answers q)
IsAnswered answers NotMark = Unit {0}
IsAnswered answers OpenMark = Unit {0}
IsAnswered answers CloseMark = Unit {0}
IsAnswered answers AndMark = Unit {0}
IsAnswered answers OrMark = Unit {0}
IsAnswered answers MinusMark = Unit {0}

abbrev AreAnswered : {L : Type 0} → (Question L → Option Bool) → List (Mark L) → Type 0
AreAnswered answers [] = Unit {0}
AreAnswered answers (m ∷ marks) = IsAnswered answers m × AreAnswered answers marks

mark_known : {L : Type 0} (answers : Question L → Option Bool) (s : Stack) (m : Mark L)
    → StackKnown s → IsAnswered answers m
    → StackKnown (with_mark answers s m)
mark_known answers s (Asked q) is also = (operand_known s.inner (answers q) is.0 also, is.1)
mark_known answers s NotMark is also = is
mark_known answers s OpenMark is also = opened_known s (length s.outer == 128) is
mark_known answers s CloseMark is also = closed_known s.inner s.outer is.0 is.1
mark_known answers s AndMark is also = is
mark_known answers s OrMark is also = ((said_known s.inner is.0, refl), is.1)
mark_known answers s MinusMark is also = is

marks_known : {L : Type 0} (answers : Question L → Option Bool) (s : Stack)
    (marks : List (Mark L)) → StackKnown s → AreAnswered answers marks
    → StackKnown (with_marks answers s marks)
marks_known answers s [] is also = is
marks_known answers s (m ∷ marks) is also =
    marks_known answers (with_mark answers s m) marks (mark_known answers s m is also.0) also.1

value_known : {L : Type 0} (answers : Question L → Option Bool) (marks : List (Mark L))
    → AreAnswered answers marks
    → IsSome (marks_value answers marks)
value_known answers marks also =
    let start : Stack = record { inner = fresh; outer = [] } in
    said_known (with_marks answers start marks).inner
    (marks_known answers start marks ((refl, refl), tt) also).0

-- A predicate that needs no test, and that may be in a default filter, has a known value.
field_known : (accepts : List ℕ → Bool) (s : Subject) (field : Field) (written : List ℕ)
    → written_if_test field written ≡ []
    → IsSome (field_answer accepts s field)
field_known accepts s TestName written none = absurd (cc)
field_known accepts s Package written none = refl
field_known accepts s Deps written none = refl
field_known accepts s Rdeps written none = refl
field_known accepts s BinaryId written none = refl
field_known accepts s BinaryName written none = refl
field_known accepts s Kind written none = refl
field_known accepts s Group written none = refl

question_known : {L : Type 0} (accepts : L → List ℕ → Bool) (s : Subject) (knows : Bool)
    (q : Question L) → question_leaves q ≡ []
    → question_ban DefaultFilter knows q ≡ None → IsSome (answer accepts s q)
question_known accepts s knows Always none may = refl
question_known accepts s knows Never none may = refl
question_known accepts s knows TheDefault none may = absurd (cc)
question_known accepts s knows (OfPlatform p) none may = refl
question_known accepts s knows (OfName p) none may =
    field_known (accepts p.meaning) s p.field p.written none

mark_answered : {L : Type 0} (accepts : L → List ℕ → Bool) (s : Subject) (knows : Bool)
    (m : Mark L) → mark_leaves m ≡ []
    → mark_ban DefaultFilter knows m ≡ None → IsAnswered (answer accepts s) m
mark_answered accepts s knows (Asked q) none may = question_known accepts s knows q none may
mark_answered accepts s knows NotMark none may = tt
mark_answered accepts s knows OpenMark none may = tt
mark_answered accepts s knows CloseMark none may = tt
mark_answered accepts s knows AndMark none may = tt
mark_answered accepts s knows OrMark none may = tt
mark_answered accepts s knows MinusMark none may = tt

-- No mark is banned.
abbrev AreUnbanned : {L : Type 0} → FiltersetKind → Bool → List (Mark L) → Type 0
AreUnbanned kind knows [] = Unit {0}
AreUnbanned kind knows (m ∷ marks) = (mark_ban kind knows m ≡ None) × AreUnbanned kind knows marks

unbanned_push : {L : Type 0} (kind : FiltersetKind) (knows : Bool) (marks : List (Mark L))
    (m : Mark L) → AreUnbanned kind knows marks
    → mark_ban kind knows m ≡ None → AreUnbanned kind knows (marks ++ m ∷ [])
unbanned_push kind knows [] m are is = (is, tt)
unbanned_push kind knows (n ∷ marks) m are is = (are.0, unbanned_push kind knows marks m are.1 is)

front_nil : {X : Type 0} (xs ys : List X) → xs ++ ys ≡ [] → xs ≡ []
front_nil [] ys e = refl
front_nil (x ∷ xs) ys e = absurd (cc)

back_nil : {X : Type 0} (xs ys : List X) → xs ++ ys ≡ [] → ys ≡ []
back_nil [] ys e = e
back_nil (x ∷ xs) ys e = absurd (cc)

all_answered : {L : Type 0} (accepts : L → List ℕ → Bool) (s : Subject) (knows : Bool)
    (marks : List (Mark L)) → leaves marks ≡ []
    → AreUnbanned DefaultFilter knows marks → AreAnswered (answer accepts s) marks
all_answered accepts s knows [] none are = tt
all_answered accepts s knows (m ∷ marks) none are = (
  mark_answered accepts s knows m (front_nil (mark_leaves m) (leaves marks) none) are.0,
  all_answered accepts s knows marks (back_nil (mark_leaves m) (leaves marks) none) are.1,
)

-- A mark that was read, to which nothing is objected, is not banned.
abbrev IsFair : {L : Type 0} → FiltersetKind → Bool → MarkRead L → Type 0
IsFair kind knows found = found.objection ≡ None → mark_ban kind knows found.mark ≡ None

abbrev FairIfRead : {L : Type 0} → FiltersetKind → Bool → Result (MarkRead L) Misreading → Type 0
FairIfRead kind knows (Ok found) = IsFair kind knows found
FairIfRead kind knows (Err m) = Unit {0}

abbrev FairIfNext : {L : Type 0} → FiltersetKind → Bool
    → Result (Option (MarkRead L)) Misreading → Type 0
FairIfNext kind knows (Ok (Some found)) = IsFair kind knows found
FairIfNext kind knows (Ok None) = Unit {0}
FairIfNext kind knows (Err m) = Unit {0}

mapped_none : {A B : Type 0} (f : A → B) (o : Option A) → option_map f o ≡ None → o ≡ None
mapped_none f None e = refl
mapped_none f (Some x) e = absurd (cc)

fair_asked : {L : Type 0} (kind : FiltersetKind) (knows : Bool) (shape : Shape) (text : List ℕ)
    (read : Result (PredicateRead L) Misreading)
    → FairIfRead kind knows (read >>= (λ p. Ok (record {
      mark = Asked p.question;
      objection = option_map (objection_to text p) (question_ban kind knows p.question);
      rest = p.rest;
      shape = record { around = shape.around; nots = 0; wants = false; outer = shape.outer };
    })))
fair_asked kind knows shape text (Ok p) =
    λ none. mapped_none (objection_to text p) (question_ban kind knows p.question) none
fair_asked kind knows shape text (Err m) = tt

fair_word : {L : Type 0} (compiler : Compiler L) (knows : Bool) (kind : FiltersetKind)
    (shape : Shape) (place text : List ℕ) (found : Option (Word × List ℕ))
    → FairIfRead kind knows (asked_in compiler knows kind shape place text found)
fair_word compiler knows kind shape place text None = tt
fair_word compiler knows kind shape place text (Some found) =
    fair_asked kind knows shape text (predicate_in compiler found.0 text found.1)

fair_open : (L : Type 0) (kind : FiltersetKind) (knows : Bool) (from rest : List ℕ)
    (shape : Option Shape)
    → FairIfRead {L = L} kind knows (within_bound OpenMark from rest shape)
fair_open L kind knows from rest None = tt
fair_open L kind knows from rest (Some s) = λ none. refl

fair_not : (L : Type 0) (kind : FiltersetKind) (knows : Bool) (from rest : List ℕ)
    (shape : Option Shape)
    → FairIfRead {L = L} kind knows (within_bound NotMark from rest shape)
fair_not L kind knows from rest None = tt
fair_not L kind knows from rest (Some s) = λ none. refl

fair_opened : {L : Type 0} (compiler : Compiler L) (knows : Bool) (kind : FiltersetKind)
    (shape : Shape) (place text : List ℕ) (found : Option (List ℕ))
    → FairIfRead kind knows (opened_or_asked compiler knows kind shape place text found)
fair_opened compiler knows kind shape place text (Some rest) =
    fair_open _ kind knows text rest (opened_shape shape)
fair_opened compiler knows kind shape place text None =
    fair_word compiler knows kind shape place text (word_in text)

fair_wanted : {L : Type 0} (compiler : Compiler L) (knows : Bool) (kind : FiltersetKind)
    (shape : Shape) (place text : List ℕ) (found : Option (List ℕ))
    → FairIfRead kind knows (negated_or_not compiler knows kind shape place text found)
fair_wanted compiler knows kind shape place text (Some rest) =
    fair_not _ kind knows text rest (negated_shape shape)
fair_wanted compiler knows kind shape place text None =
    fair_opened compiler knows kind shape place text (after_prefix (codes "(") text)

fair_next : {L : Type 0} (kind : FiltersetKind) (knows : Bool)
    (read : Result (MarkRead L) Misreading) → FairIfRead kind knows read
    → FairIfNext kind knows (read >>= (λ found. Ok (Some found)))
fair_next kind knows (Ok found) is = is
fair_next kind knows (Err m) is = tt

fair_closed : (L : Type 0) (kind : FiltersetKind) (knows : Bool) (place rest : List ℕ)
    (shape : Option Shape)
    → FairIfNext {L = L} kind knows (closed_level place rest shape)
fair_closed L kind knows place rest None = tt
fair_closed L kind knows place rest (Some s) = λ none. refl

fair_operator : (L : Type 0) (kind : FiltersetKind) (knows : Bool) (shape : Shape)
    (place : List ℕ) (operator : Operator) (rest : List ℕ)
    → FairIfNext {L = L} kind knows (joined_in shape place operator rest)
fair_operator L kind knows shape place Close rest =
    fair_closed _ kind knows place rest (closed_shape shape.outer)
fair_operator L kind knows shape place And rest = λ none. refl
fair_operator L kind knows shape place Or rest = λ none. refl
fair_operator L kind knows shape place Minus rest = λ none. refl

fair_ended : (L : Type 0) (kind : FiltersetKind) (knows : Bool) (place : List ℕ)
    (outer : List ℕ) (text : List ℕ)
    → FairIfNext {L = L} kind knows (ended_in place outer text)
fair_ended L kind knows place (around ∷ outer) text = tt
fair_ended L kind knows place [] [] = tt
fair_ended L kind knows place [] (c ∷ text) = tt

fair_joined : (L : Type 0) (kind : FiltersetKind) (knows : Bool) (shape : Shape)
    (place text : List ℕ) (found : Option (Operator × List ℕ))
    → FairIfNext {L = L} kind knows (joined_or_ended shape place text found)
fair_joined L kind knows shape place text (Some found) =
    fair_operator _ kind knows shape place found.0 found.1
fair_joined L kind knows shape place text None = fair_ended _ kind knows place shape.outer text

fair_joining : (L : Type 0) (kind : FiltersetKind) (knows : Bool) (shape : Shape)
    (place text : List ℕ) (found : Result (Option (Operator × List ℕ)) Misreading)
    → FairIfNext {L = L} kind knows (found >>= joined_or_ended shape place text)
fair_joining L kind knows shape place text (Ok found) =
    fair_joined _ kind knows shape place text found
fair_joining L kind knows shape place text (Err m) = tt

fair_mark : {L : Type 0} (compiler : Compiler L) (knows : Bool) (kind : FiltersetKind)
    (shape : Shape) (place : List ℕ) (wants : Bool)
    → FairIfNext kind knows (if wants then wanted_in compiler knows kind shape place >>=
    (λ found. Ok (Some found)) else joining_in shape place)
fair_mark compiler knows kind shape place true =
    fair_next kind knows (wanted_in compiler knows kind shape place)
    (fair_wanted compiler knows kind shape place (skipped place)
    (after_one (codes "not ") (codes "!") (skipped place)))
fair_mark compiler knows kind shape place false =
    fair_joining _ kind knows shape place (skipped place) (operator_in (skipped place))

next_fair : {L : Type 0} (compiler : Compiler L) (knows : Bool) (kind : FiltersetKind)
    (shape : Shape) (place : List ℕ)
    → FairIfNext kind knows (next_in compiler knows kind shape place)
unfolding next_in
next_fair compiler knows kind shape place = fair_mark compiler knows kind shape place shape.wants

-- The marks of a text to which nothing is objected are not banned.
or_left : {X : Type 0} (a b : Option X) → option_or a b ≡ None → a ≡ None
or_left None b e = refl
or_left (Some x) b e = absurd (cc)

or_right : {X : Type 0} (a b : Option X) → option_or a b ≡ None → b ≡ None
or_right None b e = e
or_right (Some x) b e = absurd (cc)

-- What was read before is not banned where nothing was objected to it.
abbrev FairBefore : {L : Type 0} → FiltersetKind → Bool → Objected L → Type 0
FairBefore kind knows before = before.1 ≡ None → AreUnbanned kind knows before.0

ended_fair : {L : Type 0} (kind : FiltersetKind) (knows : Bool) (before : Objected L)
    (marks : List (Mark L)) (objection : Option Misreading)
    → FairBefore kind knows before → before ≡ (marks, objection) → objection ≡ None
    → AreUnbanned kind knows marks
ended_fair {L} kind knows before marks objection fair e none =
    let first : before.0 ≡ marks = ap (λ (b : Objected L). b.0) e in
    let unbanned : AreUnbanned kind knows before.0 = fair (ap (λ (b : Objected L). b.1) e ∙ none) in
    rw first at unbanned

abbrev ok_in : {A : Type 0} → (E : Type 0) → A → Result A E
ok_in E a = Ok a

ok_same : {A : Type 0} (E : Type 0) (a b : A) → ok_in E a ≡ ok_in E b → a ≡ b
ok_same E a b e = cc

step_fair : {L : Type 0} (kind : FiltersetKind) (knows : Bool)
    (more : Objected L → Shape → List ℕ → Result (Objected L) Misreading)
    → ((b : Objected L) (s : Shape) (p : List ℕ) (ms : List (Mark L)) → FairBefore kind knows b
    → more b s p ≡ Ok (ms, None) → AreUnbanned kind knows ms)
    → (before : Objected L) (read : Result (Option (MarkRead L)) Misreading)
    (marks : List (Mark L)) → FairBefore kind knows before
    → FairIfNext kind knows read → behind_mark more before read ≡ Ok (marks, None)
    → AreUnbanned kind knows marks
step_fair kind knows more known before (Ok (Some found)) marks fair is e =
    known (before.0 ++ found.mark ∷ [], option_or before.1 found.objection) found.shape
    found.rest marks
    (λ none. unbanned_push kind knows before.0 found.mark
    (fair (or_left before.1 found.objection none))
    (is (or_right before.1 found.objection none)))
    e
step_fair kind knows more known before (Ok None) marks fair is e =
    ended_fair kind knows before marks None fair (ok_same Misreading before (marks, None) e) refl
step_fair kind knows more known before (Err m) marks fair is e = absurd (cc)

within_fair : {L : Type 0} (compiler : Compiler L) (knows : Bool) (kind : FiltersetKind) (n : ℕ)
    (before : Objected L) (shape : Shape) (place : List ℕ) (marks : List (Mark L))
    → FairBefore kind knows before
    → marks_within compiler knows kind n before shape place ≡ Ok (marks, None)
    → AreUnbanned kind knows marks
within_fair compiler knows kind zero before shape place marks fair e =
    ended_fair kind knows before marks None fair (ok_same Misreading before (marks, None) e) refl
within_fair compiler knows kind (suc n) before shape place marks fair e =
    step_fair kind knows (marks_within compiler knows kind n)
    (λ b s p ms f is. within_fair compiler knows kind n b s p ms f is) before
    (next_in compiler knows kind shape place) marks fair
    (next_fair compiler knows kind shape place) e

unobjected : {L : Type 0} (read : Result (Objected L) Misreading) (marks : List (Mark L))
    → unless_objected read ≡ Ok marks → read ≡ Ok (marks, None)
unobjected (Ok (ms, None)) marks e = let same : ms ≡ marks = ok_same Misreading ms marks e in
    ap (λ l. Ok (l, None)) same
unobjected (Ok (ms, Some m)) marks e = absurd (cc)
unobjected (Err m) marks e = absurd (cc)

marks_fair : {L : Type 0} (compiler : Compiler L) (knows : Bool) (kind : FiltersetKind)
    (text : List ℕ) (marks : List (Mark L))
    → marks_in compiler knows kind text ≡ Ok marks → AreUnbanned kind knows marks
unfolding marks_in
marks_fair compiler knows kind text marks e =
    within_fair compiler knows kind (suc (length text)) ([], None) start_shape text marks
    (λ none. tt)
    (unobjected (marks_within compiler knows kind (suc (length text)) ([], None) start_shape
    text) marks e)

read_itself : {L : Type 0} (text : List ℕ) (read : Result (List (Mark L)) Misreading)
    (marks : List (Mark L))
    → result_map_both (λ ms. ms) (fault_in text) read ≡ Ok marks → read ≡ Ok marks
read_itself text (Ok ms) marks e = let same : ms ≡ marks = ok_same FiltersetFault ms marks e in
    ap Ok same
read_itself text (Err m) marks e = absurd (cc)

pub default_filters_answer : {L : Type 0} (accepts : L → List ℕ → Bool) (compiler : Compiler L)
    (knows : Bool) (text : List ℕ) (marks default : List (Mark L)) (binary : Binary)
    → filter_in compiler knows DefaultFilter text ≡ Ok marks → leaves marks ≡ []
    → IsSome (marks_value_beside accepts (subject_of binary None) default marks)
default_filters_answer accepts compiler knows text marks default binary read none =
    let first = marks_value (answer accepts (subject_of binary None (Some true))) default in
    value_known (answer accepts (subject_of binary None first)) marks
    (all_answered accepts (subject_of binary None first) knows marks none
    (marks_fair compiler knows DefaultFilter text marks
    (read_itself text (marks_in compiler knows DefaultFilter text) marks read)))
