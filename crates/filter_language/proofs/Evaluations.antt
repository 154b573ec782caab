-- What marks say is the value of the filter that they spell.
use Rattle.std.proofs.Common.{◌≡◌, ◌≤◌, ◌<◌, ◌+◌, ℕ, suc, max, Bool, true, false, ◌&&◌, not, List, [], ◌∷◌, Option, None, Some, option_map, length, map, drop, get_or, drop-cons, refl, sym, ◌∙◌, ap, arith, inl, inr}
use Rattle.std.proofs.Math.Seq.{drop-length}
use Rattle.std.proofs.lemmas.Bool.Decides.{eqb_tells}
use Rattle.filter_language.specs.Formula.{Question, Formula, Asks, Negated, Both, Either, Without, Grouped}
use Rattle.filter_language.specs.Grammar.{Mark, CloseMark, AndMark, OrMark, MinusMark, written, Loose, Joined, Tight, stands, Spells, nesting}
use Rattle.filter_language.specs.Values.{known_and, known_or, Subject, answer, value}
use Rattle.filter_language.specs.Evaluation.{Known, Stack, behind, fresh, said, flipped_if, with_operand, flipped, opened, with_mark, with_marks, marks_value}

first : (a b : Bool) → (a && b) ≡ true → a ≡ true
first true b e = refl
first false b e = e

second : (a b : Bool) → (a && b) ≡ true → b ≡ true
second true b e = e
second false b e = absurd (cc)

-- The value of a filter, by what its questions answer.
abbrev pub formula_value : {L : Type 0} → (Question L → Option Bool) → Formula L → Option Bool
formula_value answers (Asks q) = answers q
formula_value answers (Negated a) = option_map not (formula_value answers a)
formula_value answers (Both a b) = known_and (formula_value answers a) (formula_value answers b)
formula_value answers (Either a b) = known_or (formula_value answers a) (formula_value answers b)
formula_value answers (Without a b) =
    known_and (formula_value answers a) (option_map not (formula_value answers b))
formula_value answers (Grouped a) = formula_value answers a

-- A level, and those around it.
abbrev at : Known → List Known → Stack
at k outer = record { inner = k; outer = outer }

abbrev joint : Option Bool → Option Bool → Known
joint either both = record { either = either; both = both; negated = false }

-- Turned round twice.
flip_twice : (n : Bool) (x : Option Bool) → flipped_if (not n) x ≡ flipped_if n (option_map not x)
flip_twice true None = refl
flip_twice true (Some true) = refl
flip_twice true (Some false) = refl
flip_twice false x = refl

-- There is room for one more level.
room : (s : Stack) → length s.outer < 128 → opened s ≡ at fresh (s.inner ∷ s.outer)
room s below =
    elim (eqb_tells (length s.outer) 128) [
      | inl same ↦ (let e : length s.outer ≡ 128 = same.1 in absurd (omega (arith, e, below)))
      | inr other ↦ rw other.0 refl
    ]

-- How a written filter is evaluated, before any rest, where there is room for its levels.
record IsEvaluated {L : Type 0} (answers : Question L → Option Bool) (f : Formula L) : Type 0 where
  tight : stands Tight f ≡ true → (k : Known) (outer : List Known) (rest : List (Mark L))
      → length outer + nesting f ≤ 128
      → with_marks answers (at k outer) (written f rest)
      ≡ with_marks answers (at (with_operand k (formula_value answers f)) outer) rest
  joined : stands Joined f ≡ true → (either : Option Bool) (outer : List Known) (rest : List (Mark L))
      → length outer + nesting f ≤ 128
      → with_marks answers (at (behind either) outer) (written f rest)
      ≡ with_marks answers (at (joint either (formula_value answers f)) outer) rest
  loose : stands Loose f ≡ true → (outer : List Known) → length outer + nesting f ≤ 128
      → (either : Option Bool) × (both : Option Bool) × (known_or either both ≡ formula_value answers f)
      × ((rest : List (Mark L))
      → with_marks answers (at fresh outer) (written f rest)
      ≡ with_marks answers (at (joint either both) outer) rest)

-- An operand beside nothing but the sides of an `or`.
first_operand : {L : Type 0} (answers : Question L → Option Bool) (f : Formula L)
    → ((k : Known) (outer : List Known) (rest : List (Mark L)) → length outer + nesting f ≤ 128
    → with_marks answers (at k outer) (written f rest)
    ≡ with_marks answers (at (with_operand k (formula_value answers f)) outer) rest)
    → (either : Option Bool) (outer : List Known) (rest : List (Mark L)) → length outer + nesting f ≤ 128
    → with_marks answers (at (behind either) outer) (written f rest)
    ≡ with_marks answers (at (joint either (formula_value answers f)) outer) rest
first_operand answers f h either outer rest fits = h (behind either) outer rest fits

-- What is beside `and` is anywhere.
first_side : {L : Type 0} (answers : Question L → Option Bool) (f : Formula L)
    → ((either : Option Bool) (outer : List Known) (rest : List (Mark L)) → length outer + nesting f ≤ 128
    → with_marks answers (at (behind either) outer) (written f rest)
    ≡ with_marks answers (at (joint either (formula_value answers f)) outer) rest)
    → (outer : List Known) → length outer + nesting f ≤ 128
    → (either : Option Bool) × (both : Option Bool) × (known_or either both ≡ formula_value answers f)
    × ((rest : List (Mark L))
    → with_marks answers (at fresh outer) (written f rest) ≡ with_marks answers (at (joint either both) outer) rest)
first_side answers f h outer fits = (Some false, formula_value answers f, refl, λ rest. h (Some false) outer rest fits)

-- Behind a `not`.
negated : {L : Type 0} (answers : Question L → Option Bool) (a : Formula L) → IsEvaluated answers a
    → stands Tight a ≡ true
    → (k : Known) (outer : List Known) (rest : List (Mark L)) → length outer + suc (nesting a) ≤ 128
    → with_marks answers (at k outer) (written (Negated a) rest)
    ≡ with_marks answers (at (with_operand k (option_map not (formula_value answers a))) outer) rest
negated answers a is fits k outer rest below =
    is.tight fits (flipped k) outer rest (omega (arith, below))
    ∙ ap (λ x. with_marks answers
    (at (record { either = k.either; both = known_and k.both x; negated = false }) outer) rest)
    (flip_twice k.negated (formula_value answers a))

-- In parentheses.
grouped : {L : Type 0} (answers : Question L → Option Bool) (a : Formula L) → IsEvaluated answers a
    → stands Loose a ≡ true
    → (k : Known) (outer : List Known) (rest : List (Mark L)) → length outer + suc (nesting a) ≤ 128
    → with_marks answers (at k outer) (written (Grouped a) rest)
    ≡ with_marks answers (at (with_operand k (formula_value answers a)) outer) rest
grouped answers a is fits k outer rest below =
    let it = is.loose fits (k ∷ outer) (omega (arith, below)) in
    ap (λ s. with_marks answers s (written a (CloseMark ∷ rest))) (room (at k outer) (omega (arith, below)))
    ∙ it.3 (CloseMark ∷ rest)
    ∙ ap (λ x. with_marks answers (at (with_operand k x) outer) rest) it.2

-- Beside `and`, `-` and `or`.
left_fits : (n a b : ℕ) → n + max a b ≤ 128 → n + a ≤ 128
left_fits n a b h = omega (arith, h)

right_fits : (n a b : ℕ) → n + max a b ≤ 128 → n + b ≤ 128
right_fits n a b h = omega (arith, h)

met : {L : Type 0} (answers : Question L → Option Bool) (a b : Formula L) → IsEvaluated answers a
    → IsEvaluated answers b
    → (stands Joined a && stands Tight b) ≡ true → (either : Option Bool) (outer : List Known) (rest : List (Mark L))
    → length outer + max (nesting a) (nesting b) ≤ 128
    → with_marks answers (at (behind either) outer) (written (Both a b) rest)
    ≡ with_marks answers (at (joint either (known_and (formula_value answers a) (formula_value answers b))) outer) rest
met answers a b x y fits either outer rest below =
    x.joined (first _ _ fits) either outer (AndMark ∷ written b rest) (left_fits _ _ _ below)
    ∙ y.tight (second _ _ fits) (joint either (formula_value answers a)) outer rest (right_fits _ _ _ below)

lacked : {L : Type 0} (answers : Question L → Option Bool) (a b : Formula L) → IsEvaluated answers a
    → IsEvaluated answers b
    → (stands Joined a && stands Tight b) ≡ true → (either : Option Bool) (outer : List Known) (rest : List (Mark L))
    → length outer + max (nesting a) (nesting b) ≤ 128
    → with_marks answers (at (behind either) outer) (written (Without a b) rest)
    ≡ with_marks answers (at (joint either
    (known_and (formula_value answers a) (option_map not (formula_value answers b)))) outer) rest
lacked answers a b x y fits either outer rest below =
    x.joined (first _ _ fits) either outer (MinusMark ∷ written b rest) (left_fits _ _ _ below)
    ∙ y.tight (second _ _ fits) (flipped (joint either (formula_value answers a))) outer rest (right_fits _ _ _ below)

chosen : {L : Type 0} (answers : Question L → Option Bool) (a b : Formula L) → IsEvaluated answers a
    → IsEvaluated answers b
    → (stands Loose a && stands Joined b) ≡ true → (outer : List Known)
    → length outer + max (nesting a) (nesting b) ≤ 128
    → (either : Option Bool) × (both : Option Bool)
    × (known_or either both ≡ known_or (formula_value answers a) (formula_value answers b))
    × ((rest : List (Mark L))
    → with_marks answers (at fresh outer) (written (Either a b) rest)
    ≡ with_marks answers (at (joint either both) outer) rest)
chosen answers a b x y fits outer below =
    let it = x.loose (first _ _ fits) outer (left_fits _ _ _ below) in (
      formula_value answers a,
      formula_value answers b,
      refl,
      λ rest.
          it.3 (OrMark ∷ written b rest)
          ∙ ap (λ v. with_marks answers (at (behind v) outer) (written b rest)) it.2
          ∙ y.joined (second _ _ fits) (formula_value answers a) outer rest (right_fits _ _ _ below),
    )

is_evaluated : {L : Type 0} (answers : Question L → Option Bool) (f : Formula L) → IsEvaluated answers f
is_evaluated answers (Asks q) = record {
  tight = λ _ k outer rest _. refl;
  joined = λ _ either outer rest _. refl;
  loose = λ _ outer below. first_side answers (Asks q) (λ either outer rest _. refl) outer below;
}
is_evaluated answers (Negated a) = record {
  tight = λ fits. negated answers a (is_evaluated answers a) fits;
  joined = λ fits. first_operand answers (Negated a) (negated answers a (is_evaluated answers a) fits);
  loose = λ fits. first_side answers (Negated a)
      (first_operand answers (Negated a) (negated answers a (is_evaluated answers a) fits));
}
is_evaluated answers (Grouped a) = record {
  tight = λ fits. grouped answers a (is_evaluated answers a) fits;
  joined = λ fits. first_operand answers (Grouped a) (grouped answers a (is_evaluated answers a) fits);
  loose = λ fits. first_side answers (Grouped a)
      (first_operand answers (Grouped a) (grouped answers a (is_evaluated answers a) fits));
}
is_evaluated answers (Both a b) = record {
  tight = λ no. absurd (cc);
  joined = λ fits. met answers a b (is_evaluated answers a) (is_evaluated answers b) fits;
  loose = λ fits. first_side answers (Both a b)
      (met answers a b (is_evaluated answers a) (is_evaluated answers b) fits);
}
is_evaluated answers (Without a b) = record {
  tight = λ no. absurd (cc);
  joined = λ fits. lacked answers a b (is_evaluated answers a) (is_evaluated answers b) fits;
  loose = λ fits. first_side answers (Without a b)
      (lacked answers a b (is_evaluated answers a) (is_evaluated answers b) fits);
}
is_evaluated answers (Either a b) = record {
  tight = λ no. absurd (cc);
  joined = λ no. absurd (cc);
  loose = λ fits. chosen answers a b (is_evaluated answers a) (is_evaluated answers b) fits;
}

pub spelled_value : {L : Type 0} (answers : Question L → Option Bool) (marks : List (Mark L)) (f : Formula L)
    → Spells marks f → nesting f ≤ 128
    → marks_value answers marks ≡ formula_value answers f
spelled_value answers marks f spells below =
    let it = (is_evaluated answers f).loose spells.1 [] (omega (arith, below)) in
    ap (marks_value answers) (sym spells.0) ∙ ap (λ (s : Stack). said s.inner) (it.3 []) ∙ it.2

-- Behind a filter no level is open.
pub spelled_closed : {L : Type 0} (answers : Question L → Option Bool) (marks : List (Mark L)) (f : Formula L)
    → Spells marks f → nesting f ≤ 128
    → (with_marks answers (at fresh []) marks).outer ≡ []
spelled_closed answers marks f spells below =
    let it = (is_evaluated answers f).loose spells.1 [] (omega (arith, below)) in
    ap (λ l. (with_marks answers (at fresh []) l).outer) (sym spells.0) ∙ ap (λ (s : Stack). s.outer) (it.3 [])

-- The value of a filter is that of its questions' answers.
pub value_is : {L : Type 0} (accepts : L → List ℕ → Bool) (s : Subject) (f : Formula L)
    → formula_value (answer accepts s) f ≡ value accepts s f
value_is accepts s (Asks q) = refl
value_is accepts s (Negated a) = ap (option_map not) (value_is accepts s a)
value_is accepts s (Both a b) = rw (value_is accepts s a, value_is accepts s b) refl
value_is accepts s (Either a b) = rw (value_is accepts s a, value_is accepts s b) refl
value_is accepts s (Without a b) = rw (value_is accepts s a, value_is accepts s b) refl
value_is accepts s (Grouped a) = value_is accepts s a

-- One more mark of those in memory.
pub one_more : {M L : Type 0} (answers : Question L → Option Bool) (view : M → Mark L) (s t : Stack)
    (marks : List M) (i : ℕ) (m : M)
    → i < length marks → m ≡ get_or marks i m → t ≡ with_mark answers s (view m)
    → with_marks answers t (map view (drop (i + 1) marks)) ≡ with_marks answers s (map view (drop i marks))
one_more answers view s t marks i m below is next =
    let same : i + 1 ≡ suc i = omega arith in
    ap (λ j. with_marks answers t (map view (drop j marks))) same
    ∙ ap (λ u. with_marks answers u (map view (drop (suc i) marks))) next
    ∙ ap (λ x. with_marks answers (with_mark answers s (view x)) (map view (drop (suc i) marks))) is
    ∙ sym (ap (λ l. with_marks answers s (map view l)) (drop-cons marks i m below))

-- No more marks are left.
pub none_left : {M L : Type 0} (answers : Question L → Option Bool) (view : M → Mark L) (s t : Stack)
    (marks : List M) (i : ℕ)
    → length marks ≤ i → i ≤ length marks
    → with_marks answers s (map view (drop i marks)) ≡ with_marks answers t (map view marks)
    → s ≡ with_marks answers t (map view marks)
none_left answers view s t marks i above below is =
    let same : length marks ≡ i = omega (arith, above, below) in
    sym (ap (λ l. with_marks answers s (map view l)) (sym (ap (λ j. drop j marks) same) ∙ drop-length marks)) ∙ is
