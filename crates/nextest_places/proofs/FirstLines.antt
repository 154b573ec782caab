-- The first lines of a text, as a front of its bytes.
use Rattle.std.proofs.Common.{◌≡◌, ℕ, zero, suc, ◌+◌, ◌-◌, ◌<◌, ◌≤◌, false, ◌==◌, List, [], ◌∷◌, length, get_or, take, drop, IsUtf8, refl, ap, ◌∙◌, inl, inr, ◌⊎◌, arith, add-one, eqb-true}
use Rattle.std.proofs.lemmas.Bool.{cases_Bool}
use Rattle.std.proofs.lemmas.Bool.Decides.{nat_tests}
use Rattle.std.proofs.lemmas.List.{drop_all, drop_more}
use Rattle.std.proofs.lemmas.Str.{IsCharBoundary-start, IsCharBoundary-end, IsCharBoundary-after_ascii}
use Rattle.std.specs.Str.{IsCharBoundary}
use Rattle.nextest_places.specs.Lines.{first_lines, line_ends}

pub more_left : (d : ℕ) (cs : List ℕ) → (length (d ∷ cs) == 0) ≡ false
more_left d cs = grind (arith, nat_tests)

-- a line ends where the lines up to it do
pub end_at : (text : List ℕ) (start k : ℕ) → k < length (line_ends start text)
    → get_or (line_ends start text) k 0 ≡ start + length (first_lines (suc k) text)
end_at [] start k h = absurd (omega arith)
end_at (c ∷ []) start zero h =
    elim (cases_Bool (c == 10)) [ inl lf ↦ rw lf (omega arith) | inr other ↦ rw other (omega arith) ]
end_at (c ∷ []) start (suc k) h =
    elim (cases_Bool (c == 10))
    [ inl lf ↦ let g = rw lf at h in absurd (omega arith) | inr other ↦ let g = rw other at h in absurd (omega arith) ]
end_at (c ∷ d ∷ cs) start zero h =
    elim (cases_Bool (c == 10)) [
      | inl lf ↦ rw lf (omega arith)
      | inr other ↦ let g = rw (other, more_left d cs) at h in
          rw (other, more_left d cs) (end_at (d ∷ cs) (start + 1) zero g ∙ omega arith)
    ]
end_at (c ∷ d ∷ cs) start (suc k) h =
    elim (cases_Bool (c == 10)) [
      | inl lf ↦ let g = rw lf at h in rw lf (end_at (d ∷ cs) (start + 1) k (omega arith) ∙ omega arith)
      | inr other ↦ let g = rw (other, more_left d cs) at h in
          rw (other, more_left d cs) (end_at (d ∷ cs) (start + 1) (suc k) g ∙ omega arith)
    ]

-- the first lines are a front
pub front_is : (n : ℕ) (text : List ℕ) → take (length (first_lines n text)) text ≡ first_lines n text
front_is zero text = refl
front_is (suc n) [] = refl
front_is (suc n) (c ∷ cs) =
    elim (cases_Bool (c == 10)) [
      | inl lf ↦ rw lf (ap (λ t. c ∷ t) (front_is n cs))
      | inr other ↦ rw other (ap (λ t. c ∷ t) (front_is (suc n) cs))
    ]

-- which is empty, or ends with a newline, or is the whole text
abbrev pub EndsLine : List ℕ → ℕ → Type 0
EndsLine text n = (n ≡ length text) ⊎ ((j : ℕ) × (n ≡ suc j) × (j < length text) × (get_or text j 0 ≡ 10))

later : (c : ℕ) (cs : List ℕ) (n : ℕ) → EndsLine cs n → EndsLine (c ∷ cs) (suc n)
later c cs n (inl all) = inl (ap suc all)
later c cs n (inr at) = let (j, e, within, lf) = at in inr (suc j, ap suc e, omega arith, lf)

pub none_left : (n : ℕ) (cs : List ℕ) → length (first_lines (suc n) cs) ≡ 0
    → length (first_lines (suc n) cs) ≡ length cs
none_left n [] e = refl
none_left n (d ∷ cs) e = absurd (omega arith)

pub front_ends : (n : ℕ) (text : List ℕ)
    → (length (first_lines n text) ≡ 0) ⊎ EndsLine text (length (first_lines n text))
front_ends zero text = inl refl
front_ends (suc n) [] = inl refl
front_ends (suc n) (c ∷ cs) =
    elim (cases_Bool (c == 10)) [
      | inl lf ↦ rw lf (elim (front_ends n cs) [
        | inl none ↦ inr (inr (0, ap suc none, omega arith, eqb-true c 10 lf))
        | inr at ↦ inr (later c cs _ at)
      ])
      | inr other ↦ rw other (elim (front_ends (suc n) cs) [
        | inl none ↦ inr (later c cs _ (inl (none_left n cs none)))
        | inr at ↦ inr (later c cs _ at)
      ])
    ]

pub front_boundary : (n : ℕ) (text : List ℕ) → IsUtf8 text → IsCharBoundary text (length (first_lines n text))
front_boundary n text utf8 =
    elim (front_ends n text) [
      | inl none ↦ rw none (IsCharBoundary-start text utf8)
      | inr at ↦ elim at [
        | inl all ↦ rw all (IsCharBoundary-end text)
        | inr line ↦ let (j, e, within, lf) = line in
            rw (e, ← add-one) (IsCharBoundary-after_ascii text j utf8 within (omega arith))
      ]
    ]

-- the end that the code looks up
pub end_of : (text ends : List ℕ) (count : ℕ) → ends ≡ line_ends 0 text → count ≤ length ends → ¬ (count ≡ 0)
    → get_or ends (count - 1) 0 ≡ length (first_lines count text)
end_of text ends zero e within some = absurd (some refl)
end_of text ends (suc k) e within some =
    let less : suc k - 1 ≡ k = omega arith in
    let room : k < length (line_ends 0 text) = rw (← e) (omega arith) in
    rw (less, e) (end_at text 0 k room ∙ omega arith)

-- the lines that are left, a byte at a time
pub line_over : (left i : ℕ) (text : List ℕ) → i < length text → ¬ (left ≡ 0) → get_or text i 0 ≡ 10
    → length (first_lines left (drop i text)) ≡ 1 + length (first_lines (left - 1) (drop (i + 1) text))
line_over zero i text h some lf = absurd (some refl)
line_over (suc n) i text h some lf =
    let less : suc n - 1 ≡ n = omega arith in
    rw (drop_more text i 0 h, lf, less) (omega arith)

pub line_goes : (left i : ℕ) (text : List ℕ) → i < length text → ¬ (left ≡ 0) → (get_or text i 0 == 10) ≡ false
    → length (first_lines left (drop i text)) ≡ 1 + length (first_lines left (drop (i + 1) text))
line_goes zero i text h some other = absurd (some refl)
line_goes (suc n) i text h some other = rw (drop_more text i 0 h, other) (omega arith)

pub lines_over : (left i : ℕ) (text : List ℕ) → length text ≤ i → length (first_lines left (drop i text)) ≡ 0
lines_over zero i text h = refl
lines_over (suc n) i text h =
    let none : drop i text ≡ [] = drop_all i text h in
    rw none refl
