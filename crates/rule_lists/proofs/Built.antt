use Rattle.std.proofs.Common.{◌≡◌, ℕ, ◌+◌, ◌-◌, ◌^◌, ◌<◌, ◌≤◌, ◌≢◌, Bool, true, false, List, [], ◌∷◌, ◌++◌, length, map, drop, reverse, get_or, refl, ap, sym, ◌∙◌, arith}
use Rattle.std.specs.Prelude.{bit_or}
use Rattle.std.specs.List.{list_any}
use Rattle.std.proofs.lemmas.List.{length-map, length-drop, reverse-append}
use Rattle.std.proofs.Math.Pow.{pow_mono}
use Rattle.std.proofs.lemmas.Grind.{common_steps}
use Rattle.std.proofs.lemmas.Nat.{or_comm}
use mir.Val.{bool_byte}
use Rattle.rule_lists.specs.declared.rows.Row.{Row}
use Rattle.rule_lists.specs.Rows.{lists_of, lists_in, rows_of}
use Rattle.rule_lists.proofs.Bits.{bits-lt, bits-or, zero-none, none-zero}

lists-small : {R : Type 0} (tests : List (R → Bool)) (r : R) → length tests < 32 → lists_of tests r < 2 ^ 31
lists-small tests r few =
    let h = bits-lt (map (λ test. test r) tests) in
    let same : length (map (λ test. test r) tests) ≡ length tests = length-map tests (λ test. test r) in
    let less : 2 ^ length tests ≤ 2 ^ 31 = pow_mono {i = length tests} {j = 31} (omega (arith, few)) in
    let there : lists_of tests r < 2 ^ length tests = rw (← same) h in
    omega (arith, there, less)

pub bits-small : {K R : Type 0} (listed : K → R → Bool) (lists : List K) (k : ℕ) (r : R) (bits : ℕ)
    → length lists < 32 → bits ≡ lists_of (map listed (drop k lists)) r → bits < 2 ^ 31
bits-small listed lists k r bits few is =
    let long = length-map (drop k lists) listed ∙ length-drop k lists in
    rw is (lists-small (map listed (drop k lists)) r (omega (arith, few, long)))

pub byte-small : (b : Bool) → bool_byte b ≤ 1
byte-small true = omega arith
byte-small false = omega arith

-- no rule is left
none-in : {R : Type 0} (tests : List (R → Bool)) → 0 ≡ lists_in tests []
none-in [] = refl
none-in (t ∷ tests) = rw (← none-in tests) refl

pub built-start : {R : Type 0} (tests : List (R → Bool)) (n : ℕ) (rules : List R) (rows : List Row) → rows ≡ []
    → (reverse rows ≡ rows_of tests n (drop (length rules) rules)) × (0 ≡ lists_in tests (drop (length rules) rules))
built-start tests n rules rows is =
    let done : drop (length rules) rules ≡ [] = grind (arith, common_steps) in
    (rw (is, done) refl, rw done (none-in tests))

-- one turn of the loop that builds the rows
module _ {R : Type 0} (tests : List (R → Bool)) (first : ℕ) (rules : List R) (k : ℕ) (r : R) (some : 0 < k)
    (within : k ≤ length rules) (at : r ≡ get_or rules (k - 1) r) where
  abbrev onward : List R
  onward = drop k rules

  from : drop (k - 1) rules ≡ r ∷ onward
  from =
      let below : k - 1 < length rules = omega arith in
      let next : k - 1 + 1 ≡ k = omega arith in
      grind (arith, common_steps, below, at, next)

  pub later-step : (later lists : ℕ) → later ≡ lists_in tests onward → lists ≡ lists_of tests r
      → bit_or later lists ≡ lists_in tests (drop (k - 1) rules)
  later-step later lists is_later is_lists =
      rw (from, is_later, is_lists)
      (or_comm (lists_in tests onward) (lists_of tests r)
      ∙ bits-or (λ test. test r) (λ test. list_any test onward) tests)

  next : first + (k - 1) + 1 ≡ first + k
  next = omega arith

  pub rows-in : (rows : List Row) (later lists : ℕ) → lists ≢ 0 → lists ≡ lists_of tests r
      → later ≡ lists_in tests (drop (k - 1) rules) → reverse rows ≡ rows_of tests (first + k) onward
      → reverse (rows ++ record { number = first + (k - 1); lists = lists; later = later } ∷ [])
      ≡ rows_of tests (first + (k - 1)) (drop (k - 1) rules)
  rows-in rows later lists some_list is_lists is_later is_rows = go (list_any (λ test. test r) tests) refl where
    go : (b : Bool) → list_any (λ test. test r) tests ≡ b
        → reverse (rows ++ record { number = first + (k - 1); lists = lists; later = later } ∷ [])
        ≡ rows_of tests (first + (k - 1)) (drop (k - 1) rules)
    go true is = rw (reverse-append, is_lists, is_later, is_rows, from, is, next) refl
    go false is = absurd (some_list (is_lists ∙ none-zero (λ test. test r) tests is))

  pub rows-out : (rows : List Row) (lists : ℕ) → lists ≡ 0 → lists ≡ lists_of tests r
      → reverse rows ≡ rows_of tests (first + k) onward
      → reverse rows ≡ rows_of tests (first + (k - 1)) (drop (k - 1) rules)
  rows-out rows lists no_list is_lists is_rows =
      let is = zero-none (λ test. test r) tests (sym is_lists ∙ no_list) in
      rw (is_rows, from, is, next) refl

-- all rules are done
pub built-end : {R : Type 0} (tests : List (R → Bool)) (first : ℕ) (rules : List R) (k : ℕ) (rows : List Row)
    → k ≤ 0 → rows ≡ rows_of tests (first + k) (drop k rules) → rows ≡ rows_of tests first rules
built-end tests first rules k rows none is =
    let zero : k ≡ 0 = omega (arith, none) in
    let start : first + k ≡ first = omega (arith, none) in
    is ∙ ap (λ (n : ℕ). rows_of tests n (drop k rules)) start ∙ ap (λ (j : ℕ). rows_of tests first (drop j rules)) zero
