-- Durations read back from how they are spelled.
use Rattle.std.proofs.Common.{◌≡◌, ◌<◌, ◌≤◌, ◌^◌, ◌*◌, ◌/◌, ◌%◌, ℕ, true, cond, List, [], ◌∷◌, ◌++◌, Some, option_and_then, length, decimal, refl, ap, ◌∙◌, inl, inr, arith, rules, tests}
use Rattle.std.proofs.Math.Nat.{div-le_self}
use Rattle.std.proofs.lemmas.Bool.Decides.{eqb_tells}
use Rattle.std.proofs.lemmas.Fmt.{decimal_is_IsNumeral_wide}
use Rattle.std.proofs.lemmas.Str.Parse.{digit_from_value}
use Rattle.std.specs.Char.{digit_value, is_ascii_digit}
use Rattle.std.specs.Str.Parse.{AllDigits, digits_value}
use Rattle.rinqebo_report.specs.Durations.{unit_name, unit_size, divides, unit_of, duration_text, front_digits, behind_digits, unit_named, read_count, read_duration}
use Rattle.rinqebo_report.specs.declared.duration.Unit.{Unit as Unit'}
use Rattle.rinqebo_report.specs.declared.duration.Unit.TheVariants.{Year, Day, Hour, Minute, Second, Millisecond, Microsecond, Nanosecond}

-- A name of a unit has no digit at its start, and names the unit.
record IsNameOf (name : List ℕ) (unit : Unit') : Type 0 where
  front : front_digits name ≡ []
  behind : behind_digits name ≡ name
  named : unit_named name ≡ Some unit

names : (unit : Unit') → IsNameOf (unit_name unit) unit
names Year = record { front = refl; behind = refl; named = refl }
names Day = record { front = refl; behind = refl; named = refl }
names Hour = record { front = refl; behind = refl; named = refl }
names Minute = record { front = refl; behind = refl; named = refl }
names Second = record { front = refl; behind = refl; named = refl }
names Millisecond = record { front = refl; behind = refl; named = refl }
names Microsecond = record { front = refl; behind = refl; named = refl }
names Nanosecond = record { front = refl; behind = refl; named = refl }

is_digit_test : (c : ℕ) → digit_value c < 10 → is_ascii_digit c ≡ true
is_digit_test c h = let within = digit_from_value c h in search (rules, tests)

front_of_digits : (ds rest : List ℕ) → AllDigits 10 ds → front_digits rest ≡ [] → front_digits (ds ++ rest) ≡ ds
front_of_digits [] rest h e = e
front_of_digits (c ∷ cs) rest h e =
    ap (λ b. cond b (c ∷ front_digits (cs ++ rest)) []) (is_digit_test c h.0)
    ∙ ap (λ t. c ∷ t) (front_of_digits cs rest h.1 e)

behind_digits_of : (ds rest : List ℕ) → AllDigits 10 ds → behind_digits rest ≡ rest → behind_digits (ds ++ rest) ≡ rest
behind_digits_of [] rest h e = e
behind_digits_of (c ∷ cs) rest h e =
    ap (λ b. cond b (behind_digits (cs ++ rest)) (c ∷ (cs ++ rest))) (is_digit_test c h.0)
    ∙ behind_digits_of cs rest h.1 e

count_of_digits : (ds : List ℕ) (unit : Unit') → 0 < length ds
    → read_count ds unit ≡ Some (digits_value 10 ds * unit_size unit)
count_of_digits [] unit h = absurd (omega arith)
count_of_digits (c ∷ cs) unit h = refl

-- a number of a unit reads back
count_reads_back : (k : ℕ) (unit : Unit') → k < 10 ^ 64
    → read_duration (decimal k ++ unit_name unit) ≡ Some (k * unit_size unit)
count_reads_back k unit small =
    let numeral = decimal_is_IsNumeral_wide k small in
    let name = names unit in
    let front = front_of_digits (decimal k) (unit_name unit) numeral.0.1 name.front in
    let behind = behind_digits_of (decimal k) (unit_name unit) numeral.0.1 name.behind in
    ap (λ ds. option_and_then (read_count ds) (unit_named (behind_digits (decimal k ++ unit_name unit)))) front
    ∙ ap (λ rest. option_and_then (read_count (decimal k)) (unit_named rest)) behind
    ∙ ap (option_and_then (read_count (decimal k))) name.named
    ∙ count_of_digits (decimal k) unit numeral.0.0
    ∙ ap (λ m. Some (m * unit_size unit)) numeral.1

-- A unit divides a duration.
record Divides (unit : Unit') (n : ℕ) : Type 0 where
  exact : n % unit_size unit ≡ 0

chosen_divides : (unit other : Unit') (n : ℕ) → Divides other n → Divides (cond (divides unit n) unit other) n
chosen_divides unit other n h =
    elim (eqb_tells (n % unit_size unit) 0) [
      | inl same ↦ record { exact = ap (λ b. n % unit_size (cond b unit other)) same.0 ∙ same.1 }
      | inr differs ↦ record { exact = ap (λ b. n % unit_size (cond b unit other)) differs.0 ∙ h.exact }
    ]

unit_divides : (n : ℕ) → Divides (unit_of n) n
unit_divides n =
    let last : Divides Nanosecond n = record { exact = omega arith } in
    let of_many = chosen_divides Year _ n
    (chosen_divides Day _ n
    (chosen_divides Hour _ n
    (chosen_divides Minute _ n
    (chosen_divides Second _ n
    (chosen_divides Millisecond _ n (chosen_divides Microsecond Nanosecond n last)))))) in
    let many : Unit' = cond (divides Year n) Year
    (cond (divides Day n) Day
    (cond (divides Hour n) Hour
    (cond (divides Minute n) Minute
    (cond (divides Second n) Second
    (cond (divides Millisecond n) Millisecond (cond (divides Microsecond n) Microsecond Nanosecond)))))) in
    elim (eqb_tells n 0) [
      | inl none ↦ record {
        exact = ap (λ b. n % unit_size (cond b Second many)) none.0 ∙ ap (λ m. m % unit_size Second) none.1;
      }
      | inr other ↦ record { exact = ap (λ b. n % unit_size (cond b Second many)) other.0 ∙ of_many.exact }
    ]

whole_count : (n size : ℕ) → n % size ≡ 0 → 0 < size → n / size * size ≡ n
whole_count n size e positive = omega arith

size_is_positive : (unit : Unit') → 0 < unit_size unit
size_is_positive Year = omega arith
size_is_positive Day = omega arith
size_is_positive Hour = omega arith
size_is_positive Minute = omega arith
size_is_positive Second = omega arith
size_is_positive Millisecond = omega arith
size_is_positive Microsecond = omega arith
size_is_positive Nanosecond = omega arith

count_is_small : (n size : ℕ) → n < 2 ^ 128 → 0 < size → n / size < 10 ^ 64
count_is_small n size small positive =
    let fewer : n / size ≤ n = div-le_self n size in
    omega arith

pub duration_reads_back : (n : ℕ) → n < 2 ^ 128 → read_duration (duration_text n) ≡ Some n
duration_reads_back n small =
    let unit = unit_of n in
    let positive = size_is_positive unit in
    count_reads_back (n / unit_size unit) unit (count_is_small n (unit_size unit) small positive)
    ∙ ap Some (whole_count n (unit_size unit) (unit_divides n).exact positive)
