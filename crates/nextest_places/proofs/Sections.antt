-- Lines behind lines of a text.
use Rattle.std.proofs.Common.{◌≡◌, ℕ, zero, suc, ◌+◌, ◌<◌, ◌≤◌, IsUtf8, true, ◌==◌, List, [], ◌∷◌, ◌++◌, length, drop, Option, Some, None, is_some, refl, ap, subst, inl, inr, arith, eqb-true}
use Rattle.std.proofs.lemmas.Bool.{cases_Bool, false≢true}
use Rattle.std.proofs.lemmas.Str.{IsUtf8-drop}
use Rattle.toml.proofs.OnLiterals.{toml_on_literals}
use Rattle.nextest_tree.specs.Node.{Node}
use Rattle.nextest_documents.specs.Text.{tree_of}
use Rattle.nextest_places.specs.Lines.{after_lines, first_lines, line_count, line_ends}
use Rattle.nextest_places.specs.Search.{IsDocument}
use Rattle.nextest_places.proofs.FirstLines.{front_boundary, more_left}

none_of : (n : ℕ) → first_lines n [] ≡ []
none_of zero = refl
none_of (suc n) = refl

pub some_line : (c : ℕ) (cs : List ℕ) (start : ℕ) → 0 < length (line_ends start (c ∷ cs))
some_line c [] start = elim (cases_Bool (c == 10)) [ inl lf ↦ rw lf (omega arith) | inr other ↦ rw other (omega arith) ]
some_line c (d ∷ cs) start =
    elim (cases_Bool (c == 10)) [
      | inl lf ↦ rw lf (omega arith)
      | inr other ↦ rw (other, more_left d cs) (some_line d cs (start + 1))
    ]

-- all the lines are the text
pub all_lines : (text : List ℕ) (start n : ℕ) → length (line_ends start text) ≤ n → first_lines n text ≡ text
all_lines [] start n h = none_of n
all_lines (c ∷ cs) start zero h = absurd (omega (arith, some_line c cs start))
all_lines (c ∷ []) start (suc n) h =
    elim (cases_Bool (c == 10)) [ inl lf ↦ rw (lf, none_of n) refl | inr other ↦ rw other refl ]
all_lines (c ∷ d ∷ cs) start (suc n) h =
    elim (cases_Bool (c == 10)) [
      | inl lf ↦ let g = rw lf at h in rw lf (ap (λ t. c ∷ t) (all_lines (d ∷ cs) (start + 1) n (omega arith)))
      | inr other ↦ let g = rw (other, more_left d cs) at h in
          rw other (ap (λ t. c ∷ t) (all_lines (d ∷ cs) (start + 1) (suc n) g))
    ]

-- lines after lines
pub lines_join : (n k : ℕ) (text : List ℕ)
    → first_lines (n + k) text ≡ first_lines n text ++ first_lines k (after_lines n text)
lines_join zero k text = let same : 0 + k ≡ k = omega arith in rw same refl
lines_join (suc n) k [] = rw (none_of (suc n + k), none_of k) refl
lines_join (suc n) k (c ∷ cs) =
    let next : suc n + k ≡ suc (n + k) = omega arith in
    elim (cases_Bool (c == 10)) [
      | inl lf ↦ rw (next, lf) (ap (λ t. c ∷ t) (lines_join n k cs))
      | inr other ↦ rw (next, other) (ap (λ t. c ∷ t) (rw next at (lines_join (suc n) k cs)))
    ]

-- the first lines are a front, and what follows is the rest
pub rest_is : (n : ℕ) (text : List ℕ) → drop (length (first_lines n text)) text ≡ after_lines n text
rest_is zero text = refl
rest_is (suc n) [] = refl
rest_is (suc n) (c ∷ cs) =
    elim (cases_Bool (c == 10)) [
      | inl lf ↦ rw lf (rest_is n cs)
      | inr other ↦ rw other (rest_is (suc n) cs)
    ]

-- lines that others follow end with a newline
abbrev pub EndsLf : ℕ → List ℕ → Type 0
EndsLf n text = (a : List ℕ) × (first_lines n text ≡ a ++ 10 ∷ [])

pub ends_lf : (n start : ℕ) (text : List ℕ) → suc n < length (line_ends start text) → EndsLf (suc n) text
ends_lf n start [] h = absurd (omega (arith, h))
ends_lf n start (c ∷ []) h =
    elim (cases_Bool (c == 10)) [
      | inl lf ↦ let g = rw lf at h in absurd (omega (arith, g))
      | inr other ↦ let g = rw other at h in
          absurd (omega (arith, g))
    ]
ends_lf zero start (c ∷ d ∷ cs) h =
    elim (cases_Bool (c == 10)) [
      | inl lf ↦ rw lf ([], ap (λ b. b ∷ []) (eqb-true c 10 lf))
      | inr other ↦ let g = rw (other, more_left d cs) at h in let (a, e) =
          ends_lf zero (start + 1) (d ∷ cs) g in rw other (c ∷ a, ap (λ t. c ∷ t) e)
    ]
ends_lf (suc n) start (c ∷ d ∷ cs) h =
    elim (cases_Bool (c == 10)) [
      | inl lf ↦ let g = rw lf at h in let (a, e) = ends_lf n (start + 1) (d ∷ cs) (omega (arith, g)) in
          rw lf (c ∷ a, ap (λ t. c ∷ t) e)
      | inr other ↦ let g = rw (other, more_left d cs) at h in let (a, e) =
          ends_lf (suc n) (start + 1) (d ∷ cs) g in rw other (c ∷ a, ap (λ t. c ∷ t) e)
    ]

-- how many lines follow
start_free : (text : List ℕ) (s t : ℕ) → length (line_ends s text) ≡ length (line_ends t text)
start_free [] s t = refl
start_free (c ∷ []) s t = elim (cases_Bool (c == 10)) [ inl lf ↦ rw lf refl | inr other ↦ rw other refl ]
start_free (c ∷ d ∷ cs) s t =
    elim (cases_Bool (c == 10)) [
      | inl lf ↦ rw lf (ap suc (start_free (d ∷ cs) (s + 1) (t + 1)))
      | inr other ↦ rw (other, more_left d cs) (start_free (d ∷ cs) (s + 1) (t + 1))
    ]

none_after : (n : ℕ) → after_lines n [] ≡ []
none_after zero = refl
none_after (suc n) = refl

pub count_after : (n : ℕ) (text : List ℕ) (s t : ℕ) → n ≤ length (line_ends s text)
    → n + length (line_ends t (after_lines n text)) ≡ length (line_ends s text)
count_after zero text s t h = omega (arith, start_free text s t)
count_after (suc n) [] s t h = absurd (omega (arith, h))
count_after (suc n) (c ∷ []) s t h =
    elim (cases_Bool (c == 10)) [
      | inl lf ↦ let g = rw lf at h in rw (lf, none_after n) (omega (arith, g))
      | inr other ↦ let g = rw other at h in rw other (omega (arith, g))
    ]
count_after (suc n) (c ∷ d ∷ cs) s t h =
    elim (cases_Bool (c == 10)) [
      | inl lf ↦ let g = rw lf at h in rw lf (omega (arith, count_after n (d ∷ cs) (s + 1) t (omega (arith, g))))
      | inr other ↦ let g = rw (other, more_left d cs) at h in
          rw (other, more_left d cs) (count_after (suc n) (d ∷ cs) (s + 1) t g)
    ]

-- a document is there
pub some_of : {A : Type 0} (o : Option A) → is_some o ≡ true → (x : A) × (o ≡ Some x)
some_of None h = absurd (false≢true h)
some_of (Some x) h = (x, refl)

-- a whole text that is a document, and the empty one
pub whole_is : (text : List ℕ) (n : Node) → tree_of text ≡ Some n → IsDocument text (line_count text)
whole_is text n e = rw (all_lines text 0 (line_count text) (omega arith), e) refl

pub empty_is : (text : List ℕ) → IsDocument text 0
unfolding toml_on_literals
empty_is text = refl

-- what follows some lines is text
pub rest_utf8 : (text : List ℕ) (n : ℕ) → IsUtf8 text → IsUtf8 (after_lines n text)
rest_utf8 text n utf8 =
    subst IsUtf8 (rest_is n text)
    (IsUtf8-drop text (length (first_lines n text)) utf8 (front_boundary n text utf8))
