use Rattle.std.proofs.Common.{take}
use Rattle.rinqebo_checks.specs.Faults.{IsFindingOf, IsJoined, ReportFaults}
use Rattle.rinqebo_checks.proofs.value_faults.fault_findings.Given as goal

-- the findings report the faults so far
abbrev pub invariant-loop-place : goal.invariant-loop-place
invariant-loop-place l =
    ReportFaults (IsFindingOf l.session.layers.items l.source) (IsJoined l.faults) (take l.place l.faults)
    l.findings.items
