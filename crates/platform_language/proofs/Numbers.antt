-- Numbers as they are written plainly.
use Rattle.std.proofs.Common.{◌≡◌, ℕ, ◌+◌, ◌^◌, ◌<◌, ◌≤◌, leb, ◌==◌, ◌&&◌, inl, inr, Bool, true, false, not, List, Option, None, Some, length, decimal, if◌then◌else◌, refl, sym, ◌∙◌, ap, arith}
use Rattle.std.specs.Option.{option_and_then}
use Rattle.std.specs.Str.{all_ascii_digits}
use Rattle.std.specs.Str.Parse.{IsNumeral, digits_value, without_leading_plus}
use Rattle.std.proofs.lemmas.Bool.{le-leb, leb-true}
use Rattle.std.proofs.lemmas.Bool.Decides.{eqb_tells}
use Rattle.std.proofs.lemmas.Str.Parse.{IsNumeralModel, numerals_by_value, tells_all_ascii_digits}
use Rattle.platform_language.specs.Leaves.{is_numeral, plain_to}

own : IsNumeralModel (λ ds. all_ascii_digits ds ≡ true) (digits_value 10)
own = numerals_by_value _ tells_all_ascii_digits

both : (a b : Bool) → a ≡ true → b ≡ true → (a && b) ≡ true
both a b x y = rw (x, y) refl

left : (a b : Bool) → (a && b) ≡ true → a ≡ true
left true b e = refl
left false b e = e

right : (a b : Bool) → (a && b) ≡ true → b ≡ true
right true b e = e
right false b e = absurd (cc)

some_length : (n : ℕ) → 0 < n → not (n == 0) ≡ true
some_length n some =
    elim (eqb_tells n 0) [
      | inl is ↦ (let none : n ≡ 0 = is.1 in absurd (omega (arith, none, some)))
      | inr other ↦ ap not other.0
    ]

length_some : (n : ℕ) → not (n == 0) ≡ true → 0 < n
length_some n e =
    elim (eqb_tells n 0) [
      | inl is ↦ absurd (let clash : false ≡ true = sym (ap not is.0) ∙ e in cc)
      | inr other ↦ omega (arith, other.1)
    ]

numeral_tells : (ds : List ℕ) → IsNumeral 10 ds → is_numeral ds ≡ true
numeral_tells ds is = both _ _ (some_length (length ds) is.0) (own.from ds is.1)

is_a_numeral : (ds : List ℕ) → is_numeral ds ≡ true → IsNumeral 10 ds
is_a_numeral ds e = (
  length_some (length ds) (left (not (length ds == 0)) (all_ascii_digits ds) e),
  own.to ds
      (right (not (length ds == 0)) (all_ascii_digits ds) e),
)

abbrev kept : ℕ → ℕ → Option (List ℕ)
kept most n = if leb n most then Some (decimal n) else None

abbrev found : Bool → ℕ → Option ℕ
found b n = if b then Some n else None

by_numeral : (most n : ℕ) (b : Bool) → b ≡ true → n ≤ most → Some (decimal n) ≡ option_and_then (kept most) (found b n)
by_numeral most n b is below = rw (is, le-leb n most below) refl

by_none : (most n : ℕ) (b : Bool) → (b ≡ true → n ≤ most → ⊥) → None ≡ option_and_then (kept most) (found b n)
by_none most n false none = refl
by_none most n true none = by_size (leb n most) refl
  where
    by_size : (s : Bool) → leb n most ≡ s → None ≡ (if s then Some (decimal n) else None)
    by_size false is = refl
    by_size true is = absurd (none refl (leb-true n most is))

-- A text writes a number of so many bits, perhaps behind a `+`.
abbrev Writes : ℕ → List ℕ → Type 0
Writes k bs = IsNumeral 10 (without_leading_plus bs) × (digits_value 10 (without_leading_plus bs) < 2 ^ k)

-- A text that parses to a number is written plainly as that number.
pub plain_ok : (k most n : ℕ) (bs : List ℕ) → most + 1 ≡ 2 ^ k
    → Writes k bs × (n ≡ digits_value 10 (without_leading_plus bs))
    → Some (decimal n) ≡ plain_to most bs
plain_ok k most n bs top ((numeral, below), is) =
    let ds = without_leading_plus bs in
    let v = digits_value 10 ds in
    let fits : v ≤ most = omega (arith, below, top) in
    ap (λ x. Some (decimal x)) is ∙ by_numeral most v (is_numeral ds) (numeral_tells ds numeral) fits

-- A text that does not parse is not written plainly.
pub plain_err : (k most : ℕ) (bs : List ℕ) → most + 1 ≡ 2 ^ k → ¬ (Writes k bs)
    → None ≡ plain_to most bs
plain_err k most bs top none =
    let ds = without_leading_plus bs in
    let v = digits_value 10 ds in
    by_none most v (is_numeral ds) (λ is fits. none (is_a_numeral ds is, omega (arith, fits, top)))
