use Rattle.rinqebo_checks.specs.Faults.{AreJoined}
use Rattle.rinqebo_checks.proofs.value_faults.joined_marks.Given as goal

-- the faults whose marks are set so far are joined
abbrev pub invariant-loop-place : goal.invariant-loop-place
invariant-loop-place l = AreJoined l.faults l.marks.items
