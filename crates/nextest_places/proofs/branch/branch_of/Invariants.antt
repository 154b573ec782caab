use Rattle.std.proofs.Common.{◌≡◌, ◌++◌, ℕ, List, drop}
use Rattle.nextest_places.specs.Branches.{Role, is_entry_in, numbers_at, numbers_where}
use Rattle.nextest_places.proofs.branch.branch_of.Given as goal

abbrev pub invariant-loop-number : goal.invariant-loop-number
invariant-loop-number l =
    (role : Role) (keys : List (List ℕ))
    → numbers_at role keys l.branch ++ numbers_where (is_entry_in role keys) l.number (drop l.number l.entries)
    ≡ numbers_where (is_entry_in role keys) 0 l.entries
