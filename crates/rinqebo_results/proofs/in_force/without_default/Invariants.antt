use Rattle.std.proofs.Common.{◌≡◌, ◌++◌, filter, not}
use Rattle.rinqebo_results.specs.InForce.{is_default}
use Rattle.rinqebo_results.proofs.in_force.without_default.Given as goal

-- the entries so far, and those that are left
abbrev pub invariant-loop-entry : goal.invariant-loop-entry
invariant-loop-entry l =
    l.told.items ++ filter (λ entry. not (is_default entry)) l.entry-iterator.rest.items
    ≡ filter (λ entry. not (is_default entry)) l.fn.entries.items
