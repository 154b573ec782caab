-- Numbers of few digits.
use Rattle.std.proofs.Common.{◌≡◌, ℕ, ◌^◌, ◌<◌, ◌≤◌, ◌==◌, ◌&&◌, inl, inr, Bool, true, false, not, List, length, refl, sym, ◌∙◌, ap, arith}
use Rattle.std.specs.Prelude.{Result, Ok, Err}
use Rattle.std.specs.Str.{all_ascii_digits}
use Rattle.std.specs.Str.Parse.{IsNumeral, digits_value, without_leading_plus}
use Rattle.std.proofs.lemmas.Bool.Decides.{eqb_tells}
use Rattle.std.proofs.lemmas.Str.Parse.{IsNumeralModel, numerals_by_value, tells_all_ascii_digits, parse_gives, digits_value_short}

own : IsNumeralModel (λ ds. all_ascii_digits ds ≡ true) (digits_value 10)
own = numerals_by_value _ tells_all_ascii_digits

left : (a b : Bool) → (a && b) ≡ true → a ≡ true
left true b e = refl
left false b e = e

right : (a b : Bool) → (a && b) ≡ true → b ≡ true
right true b e = e
right false b e = absurd (cc)

some_length : (n : ℕ) → not (n == 0) ≡ true → 0 < n
some_length n e =
    elim (eqb_tells n 0) [
      | inl is ↦ absurd (let clash : false ≡ true = sym (ap not is.0) ∙ e in cc)
      | inr other ↦ omega (arith, other.1)
    ]

-- a text of a digit or more
abbrev Test : List ℕ → Type 0
Test bs = (all_ascii_digits bs && not (length bs == 0)) ≡ true

-- a text writes a number of 64 bits, perhaps behind a `+`
abbrev Writes : List ℕ → Type 0
Writes bs = IsNumeral 10 (without_leading_plus bs) × (digits_value 10 (without_leading_plus bs) < 2 ^ 64)

-- so many digits write less than this
pub small : (bs : List ℕ) → Test bs → length bs ≤ 3 → digits_value 10 bs < 1000
small bs test short =
    digits_value_short own bs 3 (left (all_ascii_digits bs) (not (length bs == 0)) test) short

ok_same : (a b : ℕ) (r : Result ℕ ℕ) → r ≡ Ok a → r ≡ Ok b → a ≡ b
ok_same a b r p q = cc

err_clash : (a e : ℕ) (r : Result ℕ ℕ) → r ≡ Err e → r ≡ Ok a → ⊥
err_clash a e r p q = cc

-- a text of few digits parses to the number that they write
pub number_is : (bs : List ℕ) (n : ℕ) → Test bs → length bs ≤ 3
    → Writes bs × (n ≡ digits_value 10 (without_leading_plus bs)) → n ≡ digits_value 10 bs
number_is bs n test short h =
    ok_same n (digits_value 10 bs) (Ok n) refl
    (parse_gives own 64 bs (Ok n) h (left (all_ascii_digits bs) (not (length bs == 0)) test)
    (some_length (length bs) (right (all_ascii_digits bs) (not (length bs == 0)) test))
    (let low = small bs test short in omega (arith, low)))

pub number_there : (bs : List ℕ) → Test bs → length bs ≤ 3 → ¬ (Writes bs) → ⊥
number_there bs test short h =
    err_clash (digits_value 10 bs) 0 (Err 0) refl
    (parse_gives own 64 bs (Err 0) h (left (all_ascii_digits bs) (not (length bs == 0)) test)
    (some_length (length bs) (right (all_ascii_digits bs) (not (length bs == 0)) test))
    (let low = small bs test short in omega (arith, low)))
