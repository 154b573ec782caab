use Rattle.std.proofs.Common.{List, ◌++◌}
use Rattle.rinqebo_report.specs.declared.finding.Finding.{Finding}
use Rattle.rinqebo_checks.specs.Rounds.{AreSome}
use Rattle.rinqebo_checks.proofs.warned.new_ones.Given as goal

-- some of what is left are, behind those so far, some of all
abbrev pub invariant-loop-warning : goal.invariant-loop-warning
invariant-loop-warning l =
    (more : List Finding) → AreSome l.warning-iterator.rest.items more
    → AreSome l.fn.warnings.items (l.chosen.items ++ more)
