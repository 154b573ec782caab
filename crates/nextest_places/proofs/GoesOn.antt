-- A text of whole lines, and the same text with more behind it.
use Rattle.std.proofs.Common.{◌≡◌, ℕ, suc, ◌+◌, ◌≤◌, Bool, false, ◌==◌, List, [], ◌∷◌, length, take, drop, slice_index, is_some, unwrap_or, refl, ap, inl, inr, ◌⊎◌, arith}
use Rattle.std.proofs.lemmas.Bool.{cases_Bool, true≢false}
use Rattle.std.specs.List.{prefix_len}
use Rattle.toml_parser.specs.Lexical.{first, is_ws, skip_ws, skip_turn, skip_from}

-- the second text goes on after the last newline of the first
pub data GoesOn (behind : List ℕ) : List ℕ → List ℕ → Type 0 where
  here : GoesOn behind (10 ∷ []) (10 ∷ behind)
  next : (c : ℕ) (x y : List ℕ) → GoesOn behind x y → GoesOn behind (c ∷ x) (c ∷ y)

-- or nothing is left of the first
abbrev pub Left : List ℕ → List ℕ → List ℕ → Type 0
Left behind x y = (x ≡ []) ⊎ GoesOn behind x y

pub first_same : {behind : List ℕ} → (x y : List ℕ) → GoesOn behind x y → first x ≡ first y
first_same x y here = refl
first_same x y (next c xs ys g) = refl

pub within : {behind : List ℕ} → (x y : List ℕ) → GoesOn behind x y → length x ≤ length y
within x y here = omega arith
within x y (next c xs ys g) = omega (arith, within xs ys g)

-- after a byte that is not a newline
pub after_first : {behind : List ℕ} → (x y : List ℕ) → GoesOn behind x y → (first x == 10) ≡ false
    → GoesOn behind (drop 1 x) (drop 1 y)
after_first x y here h = absurd (true≢false h)
after_first x y (next c xs ys g) h = g

pub after_any : {behind : List ℕ} → (x y : List ℕ) → GoesOn behind x y → Left behind (drop 1 x) (drop 1 y)
after_any x y here = inl refl
after_any x y (next c xs ys g) = inr g

pub second_same : {behind : List ℕ} → (x y : List ℕ) → GoesOn behind x y → (first x == 10) ≡ false
    → slice_index x 1 ≡ slice_index y 1
second_same x y here h = absurd (true≢false h)
second_same x y (next c xs ys g) h = first_same xs ys g

-- a run of bytes that holds no newline
pub run_same : {behind : List ℕ} → (p : ℕ → Bool) (x y : List ℕ) → GoesOn behind x y → p 10 ≡ false
    → (prefix_len p x ≡ prefix_len p y) × GoesOn behind (drop (prefix_len p x) x) (drop (prefix_len p x) y)
    × (take (prefix_len p x) x ≡ take (prefix_len p x) y)
run_same p x y here none = rw none (refl, here, refl)
run_same p x y (next c xs ys g) none =
    elim (cases_Bool (p c)) [
      | inl passes ↦
          let (same, rest, front) = run_same p xs ys g none in
          let a : 1 + prefix_len p xs ≡ suc (prefix_len p xs) = omega arith in
          let b : 1 + prefix_len p ys ≡ suc (prefix_len p ys) = omega arith in
          rw (passes, a, b) (ap suc same, rest, ap (λ t. c ∷ t) front)
      | inr stops ↦ rw stops (refl, next c xs ys g, refl)
    ]

pub skip_ws_grown : {behind : List ℕ} → (x y : List ℕ) → GoesOn behind x y → GoesOn behind (skip_ws x) (skip_ws y)
unfolding skip_ws
skip_ws_grown x y g =
    let (same, rest, front) = run_same is_ws x y g refl in
    rw (← same) rest

-- white space, newlines and comments
pub skip_grown : {behind : List ℕ} → (comments : Bool) (x y : List ℕ) → GoesOn behind x y → (inside : Bool)
    → Left behind (skip_from comments inside x) (skip_from comments inside y)
unfolding skip_from
skip_grown comments x y here inside = inl refl
skip_grown comments x y (next c xs ys g) inside =
    let turn = skip_turn comments inside c (first xs) in
    rw (← first_same xs ys g) (elim (cases_Bool (is_some turn)) [
      | inl more ↦ rw more (skip_grown comments xs ys g (unwrap_or turn false))
      | inr stop ↦ rw stop (inr (next c xs ys g))
    ])
