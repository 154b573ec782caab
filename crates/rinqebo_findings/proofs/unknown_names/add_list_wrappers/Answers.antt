use Rattle.rinqebo_findings.specs.Later.{list_wrapper_faults}
use Rattle.rinqebo_findings.proofs.Each.{taken}
use Rattle.rinqebo_findings.proofs.Later.{adds_next}
use Rattle.rinqebo_findings.proofs.unknown_names.add_list_wrappers.Goals as goal

pub loop-error-preserved : goal.loop-error-preserved
loop-error-preserved c =
    let source = c.args.refused.now.source in
    adds_next source.layers.now source.position (list_wrapper_faults c.args.namings.now) c.args.errors.now
    c.loop-error.error-index
    c.error-item.result _ _ _ (taken _ _ _ c.loop-error-test.true c.error-item.is)
    c.loop-error.invariant
    c.in_ok-add_list_wrapper.ensures
