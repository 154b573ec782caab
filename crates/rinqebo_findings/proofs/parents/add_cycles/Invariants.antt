use Rattle.std.proofs.Common.{take}
use Rattle.rinqebo_findings.specs.Later.{AddsLater, cycle_faults}
use Rattle.rinqebo_findings.proofs.parents.add_cycles.Given as goal

-- the findings of the cycles so far are added
abbrev pub invariant-loop-cycle : goal.invariant-loop-cycle
invariant-loop-cycle l =
    AddsLater l.refused.source.layers.now l.refused.source.position (cycle_faults (take l.cycle-index l.cycles))
    l.initial.findings.items l.findings.items
