-- Rows: the rules that are in some list, each with its lists as bits.
use Rattle.std.specs.Prelude.{ℕ, ◌+◌, ◌*◌, ◌/◌, ◌%◌, ◌==◌, Bool, Option, Some, List, [], ◌∷◌, map, if◌then◌else◌}
use Rattle.std.specs.Int.{bit_at}
use Rattle.std.specs.List.{list_any}
use Rattle.rule_lists.specs.declared.rows.Row.{Row}

-- flags as a number: the first one is its lowest bit
abbrev pub bits_of : List Bool → ℕ
bits_of [] = 0
bits_of (b ∷ bs) = bits_of bs * 2 + (if b then 1 else 0)

-- the lists that a rule is in
abbrev pub lists_of : {R : Type 0} → List (R → Bool) → R → ℕ
lists_of tests r = bits_of (map (λ test. test r) tests)

-- the lists that some rule is in
abbrev pub lists_in : {R : Type 0} → List (R → Bool) → List R → ℕ
lists_in tests rules = bits_of (map (λ test. list_any test rules) tests)

-- the row of rule n, before the rules that come after it
abbrev pub row_of : {R : Type 0} → List (R → Bool) → ℕ → R → List R → Row
row_of tests n r rules =
    record { number = n; lists = lists_of tests r; later = lists_in tests (r ∷ rules) }

-- the rows of the rules that are in some list, numbered on from n
abbrev pub rows_of : {R : Type 0} → List (R → Bool) → ℕ → List R → List Row
rows_of tests n [] = []
rows_of tests n (r ∷ rules) =
    if list_any (λ test. test r) tests
    then row_of tests n r rules ∷ rows_of tests (n + 1) rules
    else rows_of tests (n + 1) rules

-- what was found in each list, once a rule is found in some lists
abbrev pub settled : {R : Type 0} → R → ℕ → List (Option R) → List (Option R)
settled rule bits [] = []
settled rule bits (o ∷ found) =
    (if bits % 2 == 1 then Some rule else o) ∷ settled rule (bits / 2) found

-- list k: the numbers of the rows that have bit k
abbrev pub list_at : ℕ → List Row → List ℕ
list_at k [] = []
list_at k (row ∷ rows) =
    if bit_at row.lists k == 1 then row.number ∷ list_at k rows else list_at k rows
