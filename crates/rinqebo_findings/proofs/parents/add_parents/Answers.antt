use Rattle.std.proofs.Common.{◌≡◌, ◌∙◌, ap, subst}
use Rattle.rinqebo_faults.specs.Hints.{texts}
use Rattle.rinqebo_findings.specs.Later.{AddsLater, parent_faults_of}
use Rattle.rinqebo_findings.specs.Profiles.{profile_names}
use Rattle.rinqebo_findings.proofs.Each.{taken}
use Rattle.rinqebo_findings.proofs.Later.{adds_next}
use Rattle.rinqebo_findings.proofs.parents.add_parents.Goals as goal

pub loop-error-preserved : goal.loop-error-preserved
loop-error-preserved c =
    let source = c.args.refused.now.source in
    let layers = source.layers.now in
    let known : texts c.deref.result.now ≡ profile_names layers = ap texts c.deref.ensures.value ∙ c.in_ok-names.ensures in
    adds_next layers source.position (parent_faults_of (profile_names layers)) c.args.errors.now
    c.loop-error.error-index c.error-item.result _ _ _ (taken _ _ _ c.loop-error-test.true c.error-item.is)
    c.loop-error.invariant
    (subst (λ names. AddsLater layers source.position (parent_faults_of names c.error-item.result)
    c.loop-error.findings.items c.add_parent.new.findings.items) known c.in_ok-add_parent.ensures)
