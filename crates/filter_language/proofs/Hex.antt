-- The numbers of hex digits.
use Rattle.std.proofs.Common.{◌≡◌, ◌<◌, ◌≤◌, ◌+◌, ◌*◌, ◌^◌, ◌&&◌, ℕ, zero, suc, nat_lt, Bool, true, false, List, [], ◌∷◌, Option, None, Some, Result, Ok, Err, length, refl, sym, ◌∙◌, ap, subst, arith, inl, inr, if◌then◌else◌}
use Rattle.std.specs.List.{list_all}
use Rattle.std.specs.Result.{result_ok}
use Rattle.std.specs.Char.{digit_value, is_digit}
use Rattle.std.specs.Str.Parse.{AllDigits, IsNumeral, digits_value, digits_value_after, without_leading_plus, ParsesUnsigned}
use Rattle.std.proofs.lemmas.Bool.Decides.{Decides-ltb, eqb_tells}
use Rattle.filter_language.specs.Arguments.{hex_in}

abbrev is_hex : ℕ → Bool
is_hex c = is_digit c 16

-- A test of the first element and of the others.
both : (a b : Bool) → (a && b) ≡ true → (a ≡ true) × (b ≡ true)
both true b e = (refl, e)
both false b e = absurd (cc)

below : (c : ℕ) → is_hex c ≡ true → digit_value c < 16
below c e = (Decides-ltb (digit_value c) 16).0 e

are_digits : (ds : List ℕ) → list_all is_hex ds ≡ true → AllDigits 16 ds
are_digits [] e = tt
are_digits (c ∷ ds) e =
    let it = both (is_hex c) (list_all is_hex ds) e in (below c it.0, are_digits ds it.1)

no_plus : (ds : List ℕ) → list_all is_hex ds ≡ true → without_leading_plus ds ≡ ds
no_plus [] e = refl
no_plus (c ∷ ds) e =
    elim (eqb_tells c 43) [
      | inl same ↦ absurd (let clash : is_hex 43 ≡ true = rw same.1 at (both (is_hex c) (list_all is_hex ds) e).0 in cc)
      | inr other ↦ rw other.0 refl
    ]

-- The least number that so many more digits do not reach.
abbrev bound : ℕ → ℕ → ℕ
bound zero m = m
bound (suc k) m = bound k (m * 16)

grows : (k n m : ℕ) (ds : List ℕ) → length ds ≤ k → list_all is_hex ds ≡ true → n < m
    → digits_value_after 16 n ds < bound k m
grows zero n m [] short all less = less
grows zero n m (c ∷ ds) short all less = absurd (omega (arith, short))
grows (suc k) n m [] short all less = grows k n (m * 16) [] (omega arith) refl (omega (arith, less))
grows (suc k) n m (c ∷ ds) short all less =
    let it = both (is_hex c) (list_all is_hex ds) all in
    let small = below c it.0 in
    grows k (n * 16 + digit_value c) (m * 16) ds (omega (arith, short)) it.1 (omega (arith, less, small))

fits : (ds : List ℕ) → length ds ≤ 6 → list_all is_hex ds ≡ true → digits_value 16 ds < 2 ^ 32
fits ds short all = let it : digits_value_after 16 0 ds < bound 6 1 =
    grows 6 0 1 ds short all (omega arith) in omega (arith, it)

pick : (a b c : Bool) (x : Option ℕ) → a ≡ true → b ≡ true → c ≡ true → (if (a && b) && c then x else None) ≡ x
pick a b c x p q r = rw (p, q, r) refl

numeral_is : (ds : List ℕ) → 0 < length ds → length ds ≤ 6 → list_all is_hex ds ≡ true
    → hex_in ds ≡ Some (digits_value 16 ds)
numeral_is ds some short all =
    pick (nat_lt 0 (length ds)) (nat_lt (length ds) 7) (list_all is_hex ds) (Some (digits_value 16 ds))
    ((Decides-ltb 0 (length ds)).1 some)
    ((Decides-ltb (length ds) 7).1 (omega (arith, short))) all

no_numeral : {E : Type 0} (ds : List ℕ) (e : E) → length ds ≤ 6 → list_all is_hex ds ≡ true
    → ParsesUnsigned 32 16 ds (Err e) → None ≡ hex_in ds
no_numeral [] e short all h = refl
no_numeral (c ∷ ds) e short all h =
    let P : List ℕ → Type 0 = λ l. IsNumeral 16 l × (digits_value 16 l < 2 ^ 32) in
    let some : 0 < length (c ∷ ds) = omega arith in
    absurd (h (subst P (sym (no_plus (c ∷ ds) all)) ((some, are_digits (c ∷ ds) all), fits (c ∷ ds) short all)))

-- What `from_str_radix` gives of at most six hex digits.
pub hex_is : {E : Type 0} (ds : List ℕ) (r : Result ℕ E) → length ds ≤ 6 → list_all is_hex ds ≡ true
    → ParsesUnsigned 32 16 ds r → result_ok r ≡ hex_in ds
hex_is ds (Ok n) short all h =
    let some : 0 < length ds = omega (arith, h.0.0.0, ap length (no_plus ds all)) in
    ap Some (h.1 ∙ ap (digits_value 16) (no_plus ds all)) ∙ sym (numeral_is ds some short all)
hex_is ds (Err e) short all h = no_numeral ds e short all h

-- More than six digits, or others, write no number.
pub too_long : (ds : List ℕ) → 6 < length ds → None ≡ hex_in ds
too_long ds long = long_pick (nat_lt 0 (length ds)) (nat_lt (length ds) 7) refl
  where
    long_pick : (a b : Bool) → nat_lt (length ds) 7 ≡ b
        → None ≡ (if (a && b) && list_all is_hex ds then Some (digits_value 16 ds) else None)
    long_pick true true is = absurd (let less = (Decides-ltb (length ds) 7).0 is in omega (arith, long, less))
    long_pick true false is = refl
    long_pick false b is = refl
