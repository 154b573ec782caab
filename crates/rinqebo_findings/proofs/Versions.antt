-- Numbers of versions.
use Rattle.std.proofs.Common.{◌≡◌, ℕ, ◌^◌, ◌<◌, ◌==◌, ◌&&◌, inl, inr, true, false, not, List, length, sym, ◌∙◌, ap, arith}
use Rattle.std.specs.Prelude.{Result, Ok, Err, nat_lt}
use Rattle.std.specs.Result.{is_ok}
use Rattle.std.specs.Str.{all_ascii_digits}
use Rattle.std.specs.Str.Parse.{digits_value, ParsesUnsigned}
use Rattle.std.proofs.lemmas.Bool.{and_parts, le-ltb, lt-ltb}
use Rattle.std.proofs.lemmas.Bool.Decides.{eqb_tells, leb_tells}
use Rattle.std.proofs.lemmas.Str.Parse.{IsNumeralModel, numerals_by_value, parse_digits, tells_all_ascii_digits}

own : IsNumeralModel (λ ds. all_ascii_digits ds ≡ true) (digits_value 10)
own = numerals_by_value _ tells_all_ascii_digits

some_length : (n : ℕ) → not (n == 0) ≡ true → 0 < n
some_length n e =
    elim (eqb_tells n 0) [
      | inl is ↦ absurd (let clash : false ≡ true = sym (ap not is.0) ∙ e in cc)
      | inr other ↦ omega (arith, other.1)
    ]

-- digits are parsed where their number has 64 bits
pub parsed : {E : Type 0} → (bs : List ℕ) (r : Result ℕ E)
    → (all_ascii_digits bs && not (length bs == 0)) ≡ true → ParsesUnsigned 64 10 bs r
    → is_ok r ≡ nat_lt (digits_value 10 bs) (2 ^ 64)
parsed {E} bs (Ok n) test h =
    sym (lt-ltb (digits_value 10 bs) (2 ^ 64)
    (parse_digits own {E = E} 64 bs (Ok n) h (and_parts _ _ test).0).0.1)
parsed {E} bs (Err e) test h =
    let none = parse_digits own {E = E} 64 bs (Err e) h (and_parts _ _ test).0 in
    elim (leb_tells (2 ^ 64) (digits_value 10 bs)) [
      | inl large ↦ sym (le-ltb (digits_value 10 bs) (2 ^ 64) large.1)
      | inr small ↦ absurd (none (some_length (length bs) (and_parts _ _ test).1, small.1))
    ]
