use Rattle.std.proofs.Common.{◌≡◌, ◌||◌, ℕ, List, drop}
use Rattle.std.specs.BTreeSet.{contains_text}
use Rattle.std.specs.List.{list_any}
use Rattle.rinqebo_faults.specs.Repairs.{names_group}
use Rattle.rinqebo_faults.proofs.refusal_repairs.marks_of.Given as goal

abbrev pub invariant-loop-error : goal.invariant-loop-error
invariant-loop-error l =
    (mark : List ℕ)
    → (contains_text l.marks mark || list_any (names_group mark) (drop l.error-index l.errors))
    ≡ list_any (names_group mark) l.errors
