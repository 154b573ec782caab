use Rattle.std.proofs.Common.{List}
use Rattle.rinqebo_report.specs.declared.finding.Finding.{Finding}
use Rattle.rinqebo_findings.specs.Later.{AddsLater, group_faults}
use Rattle.rinqebo_findings.specs.LaterWords.{own_prefix}
use Rattle.rinqebo_findings.proofs.foreign.add_groups.Given as goal

-- the findings of the groups that are left make those of all
abbrev pub invariant-loop-group : goal.invariant-loop-group
invariant-loop-group l =
    let layers = l.refused.source.layers.now in
    let position = l.refused.source.position in
    let prefix = own_prefix layers position in
    (new : List Finding)
    → AddsLater layers position (group_faults prefix l.group-iterator) l.findings.items new
    → AddsLater layers position (group_faults prefix l.initial.group-iterator) l.fn.findings.items new
