-- A text is read to marks exactly if it is a filter of them, and it writes one list at most.
use Rattle.std.proofs.Common.{◌≡◌, ◌+◌, ℕ, suc, nat_lt, Bool, true, false, inl, inr, List, [], ◌∷◌, ◌++◌, Option, None, Some, Result, Ok, Err, option_map, length, codes, refl, sym, ◌∙◌, ap, subst, arith, if◌then◌else◌}
use Rattle.std.specs.Option.{option_or, option_and_then}
use Rattle.std.specs.Result.{result_map_both}
use Rattle.nextest_engines.specs.declared.queries.FiltersetKind.{FiltersetKind}
use Rattle.filter_language.specs.declared.reading.operator.Operator.{Operator}
use Rattle.filter_language.specs.declared.words.Word.{Word}
use Rattle.filter_language.specs.Filters.{Objected, marks_within, unless_objected, marks_in, fault_in, filter_in}
use Rattle.filter_language.specs.Formula.{Question, Formula, Asks, Grouped}
use Rattle.filter_language.specs.Grammar.{Mark, Asked, NotMark, OpenMark, CloseMark, AndMark, OrMark, MinusMark, WritesAFilter}
use Rattle.filter_language.specs.Lexing.{word_in, operator_of, after_one}
use Rattle.filter_language.specs.Nesting.{Shape, start_shape, shape_step, shape_behind, MayEnd, operator_mark}
use Rattle.filter_language.specs.Places.{Misreading}
use Rattle.filter_language.specs.Predicates.{Compiler, PredicateRead, predicate_in}
use Rattle.filter_language.specs.Reading.{Left, Progress, Wanted, Complete, begun, once_more, beside, Meets, Lacks, either, taken, within, step, finished, run, read}
use Rattle.filter_language.specs.Texts.{after_prefix}
use Rattle.filter_language.specs.Writing.{AreBlanks, SpellsMark, Writes, WritesFilter, IsFilter}
use Rattle.filter_language.proofs.MarksRead.{mark_front, at_mark, blanks_end, EndsBehind, marks_read}
use Rattle.filter_language.proofs.MarksSpelled.{marks_spelled}
use Rattle.filter_language.proofs.PredicatesRead.{IsAsked, question_read}
use Rattle.filter_language.proofs.Readings.{spelled_is_read}
use Rattle.filter_language.proofs.Shapes.{shape_of, may_end_spells}

-- Marks that are read one by one may each stand where they do.
bound_shape : {L : Type 0} (l : Left L) (next q : Progress L) (b : Bool) → nat_lt (l.around + l.nots) 128 ≡ b
    → (if b then Some next else None) ≡ Some q
    → (if nat_lt (l.around + l.nots) 128 then Some (shape_of next) else None) ≡ Some (shape_of q)
bound_shape l next q true is got = let same : next ≡ q = cc in rw is (ap (λ x. Some (shape_of x)) same)
bound_shape l next q false is got = absurd (cc)

some_shape : {L : Type 0} (next q : Progress L) → ◌≡◌ {A = Option (Progress L)} (Some next) (Some q)
    → ◌≡◌ {A = Option Shape} (Some (shape_of next)) (Some (shape_of q))
some_shape next q got = let same : next ≡ q = cc in ap (λ x. Some (shape_of x)) same

step_shape : {L : Type 0} (p : Progress L) (m : Mark L) (q : Progress L) → step p m ≡ Some q
    → shape_step (shape_of p) m ≡ Some (shape_of q)
step_shape (Wanted l outer) (Asked a) q got = some_shape (taken l (Asks a) outer) q got
step_shape (Wanted l outer) NotMark q got = bound_shape l (Wanted (once_more l) outer) q _ refl got
step_shape (Wanted l outer) OpenMark q got =
    bound_shape l (Wanted (begun (suc (l.around + l.nots)) None) (l ∷ outer)) q _ refl got
step_shape (Wanted l outer) CloseMark q got = absurd (cc)
step_shape (Wanted l outer) AndMark q got = absurd (cc)
step_shape (Wanted l outer) OrMark q got = absurd (cc)
step_shape (Wanted l outer) MinusMark q got = absurd (cc)
step_shape (Complete n f k outer) AndMark q got = some_shape (Wanted (beside n Meets f k) outer) q got
step_shape (Complete n f k outer) MinusMark q got = some_shape (Wanted (beside n Lacks f k) outer) q got
step_shape (Complete n f k outer) OrMark q got = some_shape (Wanted (begun n (Some (either k f))) outer) q got
step_shape (Complete n f k []) CloseMark q got = absurd (cc)
step_shape (Complete n f k (l ∷ outer)) CloseMark q got = some_shape (taken l (Grouped (either k f)) outer) q got
step_shape (Complete n f k outer) (Asked a) q got = absurd (cc)
step_shape (Complete n f k outer) NotMark q got = absurd (cc)
step_shape (Complete n f k outer) OpenMark q got = absurd (cc)

finished_may_end : {L : Type 0} (p : Progress L) (f : Formula L) → finished p ≡ Some f → MayEnd (shape_of p)
finished_may_end (Wanted l outer) f got = absurd (cc)
finished_may_end (Complete n g k []) f got = (refl, refl)
finished_may_end (Complete n g k (l ∷ outer)) f got = absurd (cc)

run_next : {L : Type 0} (p : Progress L) (m : Mark L) (marks : List (Mark L)) (f : Formula L)
    (found : Option (Progress L))
    → step p m ≡ found → ((q : Progress L) → run q marks ≡ Some f → EndsBehind (shape_of q) marks)
    → option_and_then (λ next. run next marks) found ≡ Some f → EndsBehind (shape_of p) (m ∷ marks)
run_next p m marks f None is known got = absurd (cc)
run_next p m marks f (Some q) is known got =
    let it = known q got in
    (it.0, ap (option_and_then (λ next. shape_behind next marks)) (step_shape p m q is) ∙ it.1, it.2)

run_shape : {L : Type 0} (marks : List (Mark L)) (p : Progress L) (f : Formula L) → run p marks ≡ Some f
    → EndsBehind (shape_of p) marks
run_shape [] p f got = (shape_of p, refl, finished_may_end p f got)
run_shape (m ∷ marks) p f got =
    run_next p m marks f (step p m) refl (λ q more. run_shape marks q f more) got

filter_ends : {L : Type 0} (marks : List (Mark L)) → WritesAFilter marks → EndsBehind start_shape marks
filter_ends marks (f, spells, fits) =
    run_shape marks (Wanted (begun 0 None) []) f (spelled_is_read marks f spells fits)

-- What is written is read.
pub filter_is_read : {L : Type 0} (compiler : Compiler L) (knows : Bool) (kind : FiltersetKind) (text : List ℕ)
    (marks : List (Mark L)) → IsFilter compiler knows kind text marks → filter_in compiler knows kind text ≡ Ok marks
unfolding marks_in
filter_is_read {L} compiler knows kind text marks is =
    ap (λ (r : Result (Objected L) Misreading). result_map_both (λ (ms : List (Mark L)). ms) (fault_in text)
    (unless_objected r))
    (marks_read compiler knows kind marks [] (suc (length text)) start_shape text (omega arith) is.0
    (filter_ends marks is.1) is.2)

-- What is read is written.
mapped_ok : {L : Type 0} (text : List ℕ) (read : Result (List (Mark L)) Misreading) (marks : List (Mark L))
    → result_map_both (λ (ms : List (Mark L)). ms) (fault_in text) read ≡ Ok marks → read ≡ Ok marks
mapped_ok text (Ok ms) marks e = let same : ms ≡ marks = cc in ap Ok same
mapped_ok text (Err m) marks e = absurd (cc)

nothing_objected : {L : Type 0} (read : Result (Objected L) Misreading) (marks : List (Mark L))
    → unless_objected read ≡ Ok marks → read ≡ Ok (marks, None)
nothing_objected (Ok (ms, None)) marks e = let same : ms ≡ marks = cc in ap (λ l. Ok (l, None)) same
nothing_objected (Ok (ms, Some m)) marks e = absurd (cc)
nothing_objected (Err m) marks e = absurd (cc)

pub read_is_filter : {L : Type 0} (compiler : Compiler L) (knows : Bool) (kind : FiltersetKind) (text : List ℕ)
    (marks : List (Mark L)) → filter_in compiler knows kind text ≡ Ok marks → IsFilter compiler knows kind text marks
unfolding marks_in
read_is_filter {L} compiler knows kind text marks e =
    let whole = nothing_objected
    (marks_within compiler knows kind (suc (length text)) ([], None) start_shape text) marks
    (mapped_ok text (marks_in compiler knows kind text) marks e) in
    let it = marks_spelled compiler knows kind (suc (length text)) ([], None) start_shape text marks
    (omega arith) whole in
    subst (IsFilter compiler knows kind text) (sym it.whole)
    (it.writes, may_end_spells it.more it.ends.0 it.ends.1 it.ends.2, it.allowed)

-- What a text begins with decides its mark.
abbrev Front : Type 0 → Type 0
Front L = Option (Mark L × List ℕ)

abbrev front_mark : {L : Type 0} → Mark L → Option (List ℕ) → Front L
front_mark {L} m found = option_map {U = Mark L × List ℕ} (λ rest. (m, rest)) found

abbrev asked_front : {L : Type 0} → Result (PredicateRead L) Misreading → Front L
asked_front (Ok p) = Some (Asked p.question, p.rest)
asked_front (Err m) = None

abbrev worded_front : {L : Type 0} → Compiler L → List ℕ → Option (Word × List ℕ) → Front L
worded_front compiler text None = None
worded_front compiler text (Some w) = asked_front (predicate_in compiler w.0 text w.1)

abbrev operator_front : {L : Type 0} → Option (Operator × List ℕ) → Front L
operator_front {L} found = option_map {U = Mark L × List ℕ} (λ p. (operator_mark p.0, p.1)) found

abbrev front_in : {L : Type 0} → Compiler L → List ℕ → Front L
front_in compiler text =
    option_or (front_mark NotMark (after_one (codes "not ") (codes "!") text))
    (option_or (front_mark OpenMark (after_prefix (codes "(") text))
    (option_or (operator_front (operator_of text)) (worded_front compiler text (word_in text))))

asked_in_front : {L : Type 0} (compiler : Compiler L) (q : Question L) (text rest : List ℕ)
    → IsAsked compiler q text rest → front_in compiler text ≡ Some (Asked q, rest)
asked_in_front {L} compiler q text rest is =
    ap (λ o. option_or (front_mark NotMark o) (option_or (front_mark OpenMark (after_prefix (codes "(") text))
    (option_or (operator_front (operator_of text)) (worded_front compiler text (word_in text))))) is.head.no_not
    ∙ ap (λ o. option_or (front_mark OpenMark o)
    (option_or (operator_front (operator_of text)) (worded_front compiler text (word_in text)))) is.head.no_open
    ∙ ap (λ o. option_or (operator_front o) (worded_front compiler text (word_in text))) is.head.no_operator
    ∙ ap (worded_front compiler text) is.head.is_word
    ∙ ap asked_front is.is_found
    ∙ ap (λ x. Some (Asked x, is.found.rest)) is.question
    ∙ ap (λ x. Some (Asked q, x)) is.ends

mark_in_front : {L : Type 0} (compiler : Compiler L) (m : Mark L) (spelling rest : List ℕ)
    → SpellsMark compiler m spelling → front_in compiler (spelling ++ rest) ≡ Some (m, rest)
mark_in_front compiler (Asked q) spelling rest is =
    asked_in_front compiler q (spelling ++ rest) rest (question_read compiler q spelling rest is)
mark_in_front compiler NotMark spelling rest (inl is) = ap (λ l. front_in compiler (l ++ rest)) is
mark_in_front compiler NotMark spelling rest (inr is) = ap (λ l. front_in compiler (l ++ rest)) is
mark_in_front compiler OpenMark spelling rest is = ap (λ l. front_in compiler (l ++ rest)) is
mark_in_front compiler CloseMark spelling rest is = ap (λ l. front_in compiler (l ++ rest)) is
mark_in_front compiler AndMark spelling rest (inl is) = ap (λ l. front_in compiler (l ++ rest)) is
mark_in_front compiler AndMark spelling rest (inr is) = ap (λ l. front_in compiler (l ++ rest)) is
mark_in_front compiler OrMark spelling rest (inl is) = ap (λ l. front_in compiler (l ++ rest)) is
mark_in_front compiler OrMark spelling rest (inr (inl is)) = ap (λ l. front_in compiler (l ++ rest)) is
mark_in_front compiler OrMark spelling rest (inr (inr is)) = ap (λ l. front_in compiler (l ++ rest)) is
mark_in_front compiler MinusMark spelling rest is = ap (λ l. front_in compiler (l ++ rest)) is

one_mark : {L : Type 0} (m n : Mark L) (rest behind : List ℕ)
    → ◌≡◌ {A = Front L} (Some (m, rest)) (Some (n, behind)) → (m ≡ n) × (rest ≡ behind)
one_mark {L} m n rest behind e =
    let pair : ◌≡◌ {A = Mark L × List ℕ} (m, rest) (n, behind) = cc in
    (ap (λ (x : Mark L × List ℕ). x.0) pair, ap (λ (x : Mark L × List ℕ). x.1) pair)

-- Blanks alone write no mark.
no_mark : {L : Type 0} (compiler : Compiler L) (text : List ℕ) (m : Mark L) (marks : List (Mark L)) → AreBlanks text
    → Writes compiler text (m ∷ marks) → ⊥
no_mark compiler text m marks none (blanks, spelling, rest, are, is, split, writes) =
    let front = mark_front compiler m spelling is in
    let clash : [] ≡ front.first ∷ (front.more ++ rest) =
    sym (blanks_end text none) ∙ at_mark blanks spelling rest text are front split
    ∙ ap (λ l. l ++ rest) front.is in
    cc

pub one_filter : {L : Type 0} (compiler : Compiler L) (marks more : List (Mark L)) (text : List ℕ)
    → Writes compiler text marks → Writes compiler text more → marks ≡ more
one_filter compiler [] [] text is also = refl
one_filter compiler [] (n ∷ more) text is also = absurd (no_mark compiler text n more is also)
one_filter compiler (m ∷ marks) [] text is also = absurd (no_mark compiler text m marks also is)
one_filter compiler (m ∷ marks) (n ∷ more) text (blanks, spelling, rest, are, is, split, writes)
    (gaps, other, behind, blank, also, parted, written) =
    let same = one_mark m n rest behind
    (sym (mark_in_front compiler m spelling rest is)
    ∙ ap (front_in compiler) (sym (at_mark blanks spelling rest text are (mark_front compiler m spelling is) split)
    ∙ at_mark gaps other behind text blank (mark_front compiler n other also) parted)
    ∙ mark_in_front compiler n other behind also) in
    let tail = one_filter compiler marks more rest writes (subst (λ r. Writes compiler r more) (sym same.1) written) in
    ap (λ x. x ∷ marks) same.0 ∙ ap (λ l. n ∷ l) tail

pub one_formula : {L : Type 0} (compiler : Compiler L) (text : List ℕ) (f g : Formula L)
    → WritesFilter compiler text f → WritesFilter compiler text g → f ≡ g
one_formula {L} compiler text f g (marks, writes, spells, fits) (more, also, tells, within) =
    let same : ◌≡◌ {A = Option (Formula L)} (Some f) (Some g) =
    sym (spelled_is_read marks f spells fits) ∙ ap read (one_filter compiler marks more text writes also)
    ∙ spelled_is_read more g tells within in
    cc
