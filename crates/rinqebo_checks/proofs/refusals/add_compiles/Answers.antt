use Rattle.rinqebo_findings.specs.Compile.{compile_fault}
use Rattle.rinqebo_findings.specs.Later.{document_at}
use Rattle.rinqebo_findings.proofs.Each.{taken}
use Rattle.rinqebo_findings.proofs.Later.{adds_next}
use Rattle.rinqebo_checks.proofs.refusals.add_compiles.Goals as goal

pub loop-error-preserved : goal.loop-error-preserved
loop-error-preserved c =
    let layers = c.args.refused.now.source.layers.now in
    let position = c.args.refused.now.source.position in
    adds_next layers position (compile_fault (document_at layers position)) c.args.errors.now c.loop-error.error-index
    c.error-item.result _ _ _ (taken _ _ _ c.loop-error-test.true c.error-item.is)
    c.loop-error.invariant
    c.in_ok-add_compile.ensures
