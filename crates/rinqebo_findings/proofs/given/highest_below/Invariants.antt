use Rattle.std.proofs.Common.{◌≡◌}
use Rattle.rinqebo_findings.specs.Written.{highest_below}
use Rattle.rinqebo_findings.proofs.given.highest_below.Given as goal

-- the layers so far write nothing there
abbrev pub invariant-loop-place : goal.invariant-loop-place
invariant-loop-place l = highest_below l.layers l.path l.end ≡ highest_below l.layers l.path l.place
