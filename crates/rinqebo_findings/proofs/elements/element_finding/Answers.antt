use Rattle.rinqebo_findings.proofs.Values.{given_here}
use Rattle.rinqebo_findings.proofs.elements.element_finding.Goals as goal

pub returns-in_ok-range_finding-in-OutOfRange : goal.returns-in_ok-range_finding-in-OutOfRange
returns-in_ok-range_finding-in-OutOfRange c = rw c.in-OutOfRange.is c.in_ok-range_finding-in-OutOfRange.ensures

pub returns-in_ok-value_finding-in_default : goal.returns-in_ok-value_finding-in_default
returns-in_ok-value_finding-in_default c =
    let source = c.args.refused.now.source in
    given_here source.layers.now source.position c.args.cause.now c.args.path.now
    c.in_ok-value_finding-in_default.field-0 c.in_default.not-OutOfRange c.in_ok-value_finding-in_default.ensures
