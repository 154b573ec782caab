use Rattle.std.proofs.Common.{take}
use Rattle.rinqebo_checks.specs.Faults.{IsInPlace, IsKeyFinding, ReportFaults}
use Rattle.rinqebo_checks.proofs.unknown_keys.key_findings.Given as goal

-- the findings warn of the keys so far
abbrev pub invariant-loop-key : goal.invariant-loop-key
invariant-loop-key l =
    ReportFaults (λ key. IsKeyFinding l.session.layers.items l.source key.path.items)
    (λ key. IsInPlace l.faults key.path.items) (take l.key-index l.keys) l.findings.items
