use Rattle.std.proofs.Common.{take}
use Rattle.rinqebo_findings.specs.Compile.{compile_faults}
use Rattle.rinqebo_findings.specs.Later.{AddsLater, document_at}
use Rattle.rinqebo_checks.proofs.refusals.add_compiles.Given as goal

-- the findings of the errors so far are added
abbrev pub invariant-loop-error : goal.invariant-loop-error
invariant-loop-error l =
    let layers = l.refused.source.layers.now in
    let position = l.refused.source.position in
    AddsLater layers position (compile_faults (document_at layers position) (take l.error-index l.errors))
    l.initial.findings.items l.findings.items
