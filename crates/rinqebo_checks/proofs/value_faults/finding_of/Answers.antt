use Rattle.std.proofs.Common.{IfOk, Some, subst}
use Rattle.rinqebo_findings.specs.Subjects.{IsElementFinding}
use Rattle.rinqebo_checks.proofs.value_faults.finding_of.Goals as goal

pub returns : goal.returns
returns c =
    let fault = c.args.fault.now in
    subst (λ layers. IfOk c.fault_finding.result
    (IsElementFinding layers (Some c.args.source) fault.fault.cause fault.fault.path.items fault.stray))
    c.deref.ensures.value
    (subst (λ path. IfOk c.fault_finding.result
    (IsElementFinding c.deref.result.now (Some c.args.source) fault.fault.cause path fault.stray))
    c.deref-2.ensures.value c.fault_finding.ensures)
