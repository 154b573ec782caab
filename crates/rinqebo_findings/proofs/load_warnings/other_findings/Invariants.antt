use Rattle.std.proofs.Common.{map, take}
use Rattle.nextest_sources.specs.WarningsView.{warning_view}
use Rattle.rinqebo_findings.specs.Warnings.{other_warnings, ReportWarnings}
use Rattle.rinqebo_findings.proofs.load_warnings.other_findings.Given as goal

-- the findings of the warnings so far
abbrev pub invariant-loop-warning : goal.invariant-loop-warning
invariant-loop-warning l = ReportWarnings l.layers (other_warnings (map warning_view (take l.warning-index l.warnings))) l.findings.items
