use Rattle.std.proofs.Common.{List}
use Rattle.rinqebo_report.specs.declared.finding.Finding.{Finding}
use Rattle.rinqebo_findings.specs.Later.{AddsLater, document_at, script_faults}
use Rattle.rinqebo_findings.specs.LaterWords.{own_prefix}
use Rattle.rinqebo_findings.proofs.foreign.add_scripts.Given as goal

-- the findings of the scripts that are left make those of all
abbrev pub invariant-loop-script : goal.invariant-loop-script
invariant-loop-script l =
    let layers = l.refused.source.layers.now in
    let position = l.refused.source.position in
    let file = document_at layers position in
    let prefix = own_prefix layers position in
    (new : List Finding)
    → AddsLater layers position (script_faults file prefix l.fault l.script-iterator) l.findings.items new
    → AddsLater layers position (script_faults file prefix l.fault l.initial.script-iterator) l.fn.findings.items new
