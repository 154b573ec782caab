use Rattle.std.proofs.Common.{◌≡◌, ◌++◌, map}
use Rattle.rinqebo_results.specs.InForce.{hide}
use Rattle.rinqebo_results.proofs.in_force.hidden.Given as goal

-- the entries so far, and those that are left
abbrev pub invariant-loop-entry : goal.invariant-loop-entry
invariant-loop-entry l = l.told.items ++ map hide l.entry-iterator.rest.items ≡ map hide l.fn.entries.items
