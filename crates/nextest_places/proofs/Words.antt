-- Booleans, numbers and date-times.
use Rattle.std.proofs.Common.{◌≡◌, ℕ, zero, suc, ◌+◌, false, cond, ◌&&◌, ◌==◌, List, [], ◌∷◌, get_or, take, drop, slice_index, Option, Some, None, option_map, refl, sym, ap, ◌∙◌, inl, inr, arith, add-zero, get_or-drop}
use Rattle.std.proofs.lemmas.Bool.{cases_Bool}
use Rattle.std.proofs.lemmas.Bool.Decides.{nat_tests}
use Rattle.std.proofs.lemmas.List.{drop-drop}
use Rattle.std.specs.Char.{is_ascii_digit}
use Rattle.std.specs.List.{prefix_len}
use Rattle.toml_parser.specs.Lexical.{first, is_word}
use Rattle.toml_parser.specs.Numbers.{word_value, word_len, unquoted}
use Rattle.toml_parser.specs.declared.scalar.Scalar.{Scalar}
use Rattle.nextest_places.proofs.GoesOn.{GoesOn, here, next, first_same, second_same, after_first, run_same}
use Rattle.nextest_places.proofs.Kept.{Kept}

nothing_left : {behind : List ℕ} → (y : List ℕ) → GoesOn behind [] y → ⊥
nothing_left y g = elim g [ ]

drop_none : (n : ℕ) → drop {A = ℕ} n [] ≡ []
drop_none zero = refl
drop_none (suc n) = refl

end_of : {behind : List ℕ} → (n : ℕ) (more : List ℕ) → GoesOn behind (drop n []) (drop n more)
    → GoesOn behind [] (drop n more)
end_of n more g = rw drop_none at g

-- the fronts are the same where the rests are grown
front_same : {behind : List ℕ} → (n : ℕ) (x y : List ℕ) → GoesOn behind x y
    → GoesOn behind (drop n x) (drop n y) → take n x ≡ take n y
front_same zero x y g rest = refl
front_same {behind} (suc n) x y here rest = absurd (nothing_left (drop n behind) (end_of n behind rest))
front_same (suc n) x y (next c xs ys g) rest = ap (λ t. c ∷ t) (front_same n xs ys g rest)

at_drop : (n k : ℕ) (x : List ℕ) → get_or x (n + k) 0 ≡ get_or (drop n x) k 0
at_drop n k x = sym (get_or-drop n x k 0)

-- the length, where the first run is n long
word_len_from : (x : List ℕ) (n : ℕ) → prefix_len is_word x ≡ n
    → word_len x ≡ cond (first (drop n x) == 32 && is_ascii_digit (slice_index (drop n x) 1))
    (n + 1 + prefix_len is_word (drop 1 (drop n x))) n
unfolding word_len
word_len_from x n e =
    let at : get_or (drop n x) 0 0 ≡ get_or x n 0 = rw (get_or-drop n x 0 0, add-zero) refl in
    let next_at : get_or (drop n x) 1 0 ≡ get_or x (n + 1) 0 = get_or-drop n x 1 0 in
    let rest : drop 1 (drop n x) ≡ drop (n + 1) x = drop-drop 1 n x in
    rw (e, at, next_at, rest) refl

drop_all : (n k : ℕ) (x : List ℕ) → drop (n + 1 + k) x ≡ drop k (drop 1 (drop n x))
drop_all n k x = sym (ap (drop k) (drop-drop 1 n x) ∙ drop-drop k (n + 1) x)

pub word_same : {behind : List ℕ} → (x y : List ℕ) → GoesOn behind x y
    → (word_len x ≡ word_len y) × GoesOn behind (drop (word_len x) x) (drop (word_len x) y)
word_same x y g =
    let (same, rest, front) = run_same is_word x y g refl in
    let n = prefix_len is_word x in
    let r = drop n x in
    let s = drop n y in
    rw (word_len_from x n refl, word_len_from y n (sym same), ← first_same r s rest)
    (elim (cases_Bool (first r == 32)) [
      | inr other ↦ rw other (refl, rest)
      | inl gap ↦
          let no_newline : (first r == 10) ≡ false = grind (arith, nat_tests) in
          let after = after_first r s rest no_newline in
          let (count, last, front_2) = run_same is_word (drop 1 r) (drop 1 s) after refl in
          rw (gap, ← second_same r s rest no_newline) (elim (cases_Bool (is_ascii_digit (slice_index r 1))) [
            | inr other ↦ rw other (refl, rest)
            | inl digit ↦ rw digit (ap (λ k. n + 1 + k) count, rw (drop_all n _ x, drop_all n _ y) last)
          ])
    ])

scalar_from : {behind : List ℕ} → (o : Option Scalar) (r s : List ℕ) → GoesOn behind r s
    → Kept behind (option_map (λ d. (d, r)) o) (option_map (λ d. (d, s)) o)
scalar_from None r s g = tt
scalar_from (Some d) r s g = (s, g, refl)

pub unquoted_kept : {behind : List ℕ} → (x y : List ℕ) → GoesOn behind x y → Kept behind (unquoted x) (unquoted y)
unfolding unquoted
unquoted_kept x y g =
    let (same, rest) = word_same x y g in
    let front = front_same (word_len x) x y g rest in
    rw (← same) (elim (cases_Bool (word_len x == 0)) [
      | inl none ↦ rw none tt
      | inr some ↦ rw (some, ← front) (scalar_from (word_value (take (word_len x) x)) _ _ rest)
    ])

pub unquoted_end : unquoted [] ≡ None
unfolding unquoted word_len
unquoted_end = refl
