use Rattle.std.proofs.Common.{subst}
use Rattle.rinqebo_findings.specs.Subjects.{IsLackFinding}
use Rattle.rinqebo_findings.proofs.Values.{other_here}
use Rattle.rinqebo_findings.proofs.elements.fault_finding.Goals as goal

pub returns-in_ok-missing_finding-in-Missing : goal.returns-in_ok-missing_finding-in-Missing
returns-in_ok-missing_finding-in-Missing c =
    let source = c.args.refused.now.source in
    rw c.in-Missing.is (subst
    (λ key. IsLackFinding source.layers.now source.position key c.args.path.now c.args.stray
    c.in_ok-missing_finding-in-Missing.field-0)
    c.as_str.ensures.value c.in_ok-missing_finding-in-Missing.ensures)

pub returns-in_ok-element_finding-in_default : goal.returns-in_ok-element_finding-in_default
returns-in_ok-element_finding-in_default c =
    let source = c.args.refused.now.source in
    other_here source.layers.now source.position c.args.cause.now c.args.path.now c.args.stray
    c.in_ok-element_finding-in_default.field-0 c.in_default.not-Missing c.in_ok-element_finding-in_default.ensures
