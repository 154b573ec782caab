-- Rules of which it is not known whether they are met, and where rows stand.
use Rattle.std.proofs.Common.{◌≡◌, ◌∙◌, ◌≤◌, ◌<◌, ◌+◌, ◌-◌, ◌&&◌, ◌++◌, ◌∷◌, [], ℕ, zero, suc, All, Bool, true, false, List, Option, None, Some, ap, append-nil, append_assoc, arith, get_or, if◌then◌else◌, is_none, length, option_and_then, slice_get, subst, sym}
use Rattle.std.proofs.lemmas.List.Elements.{All-append, All-cons, All-nil}
use Rattle.std.specs.List.{list_any}
use Rattle.rule_lists.specs.declared.rows.Row.{Row}
use Rattle.rule_lists.specs.Lists.{IsOpen}
use Rattle.rule_lists.specs.Rows.{row_of, rows_of}

-- the number of a row is among so many, counted on from n
abbrev pub Within : ℕ → ℕ → Row → Type 0
Within n count row = (n ≤ row.number) × (row.number < n + count)

wider : (n count : ℕ) (row : Row) → Within (n + 1) count row → Within n (suc count) row
wider n count row h = (omega (arith, h.0), omega (arith, h.1))

-- each row is that of one of the rules
rows_within : {R : Type 0} (tests : List (R → Bool)) (n : ℕ) (rules : List R) (i : ℕ) (d : Row)
    → i < length (rows_of tests n rules) → Within n (length rules) (get_or (rows_of tests n rules) i d)
rows_within tests n [] i d below = absurd (omega (arith, below))
rows_within tests n (r ∷ rules) i d below =
    by_list (list_any (λ t. t r) tests) i below (λ k. rows_within tests (n + 1) rules k d) where
      by_list : (b : Bool) (i : ℕ)
          → i < length (if b then row_of tests n r rules ∷ rows_of tests (n + 1) rules else rows_of tests (n + 1) rules)
          → ((k : ℕ) → k < length (rows_of tests (n + 1) rules)
          → Within (n + 1) (length rules) (get_or (rows_of tests (n + 1) rules) k d))
          → Within n (suc (length rules))
          (get_or (if b then row_of tests n r rules ∷ rows_of tests (n + 1) rules else rows_of tests (n + 1) rules) i d)
      by_list true zero below more = (omega arith, omega arith)
      by_list true (suc i) below more =
          wider n (length rules) (get_or (rows_of tests (n + 1) rules) i d) (more i (omega (arith, below)))
      by_list false i below more = wider n (length rules) (get_or (rows_of tests (n + 1) rules) i d) (more i below)

pub row_within : {R : Type 0} (tests : List (R → Bool)) (n : ℕ) (rules : List R) (rows : List Row) (i : ℕ) (d : Row)
    → rows ≡ rows_of tests n rules → i < length rows → Within n (length rules) (get_or rows i d)
row_within tests n rules rows i d are =
    subst (λ (all : List Row). i < length all → Within n (length rules) (get_or all i d)) (sym are)
    (rows_within tests n rules i d)

-- so is its place
pub place_within : (n count k : ℕ) → (n ≤ k) × (k < n + count) → (n ≤ k) × (k - n < count) × (k - n ≤ count)
place_within n count k h = (h.0, omega (arith, h.0, h.1), omega (arith, h.0, h.1))

-- numbers of open rules were added
abbrev pub AddsOpen : ℕ → List (Option Bool) → List ℕ → List ℕ → Type 0
AddsOpen first known start now = (added : List ℕ) × (now ≡ start ++ added) × All (IsOpen first known) added

module _ (first : ℕ) (known : List (Option Bool)) (start old new : List ℕ) (so_far : AddsOpen first known start old) where
  pub same_open : new ≡ old ++ [] → AddsOpen first known start new
  same_open is = (so_far.0, is ∙ append-nil old ∙ so_far.1, so_far.2)

  -- one more is added, if it is open
  pub more_open : (n : ℕ) (o : Option Bool) (asked : Bool)
      → o ≡ option_and_then (λ met. met) (slice_get known (n - first))
      → new ≡ old ++ (if is_none o && asked then n ∷ [] else []) → AddsOpen first known start new
  more_open n (Some b) asked of is = same_open is
  more_open n None false of is = same_open is
  more_open n None true of is = (
    so_far.0 ++ n ∷ [],
    is ∙ ap (λ (ns : List ℕ). ns ++ n ∷ []) so_far.1 ∙ append_assoc start so_far.0 (n ∷ []),
    All-append (IsOpen first known) so_far.0 (n ∷ []) so_far.2
        (All-cons (IsOpen first known) n [] (sym of) (All-nil (IsOpen first known))),
  )
