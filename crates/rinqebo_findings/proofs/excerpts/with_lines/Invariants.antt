use Rattle.std.proofs.Common.{◌≡◌, ◌++◌, map}
use Rattle.rinqebo_findings.specs.Shown.{facts}
use Rattle.rinqebo_findings.proofs.excerpts.with_lines.Given as goal

abbrev pub invariant-loop-finding : goal.invariant-loop-finding
invariant-loop-finding l =
    map facts l.shown.items ++ map facts l.finding-iterator.rest.items ≡ map facts l.fn.findings.items
