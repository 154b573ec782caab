use Rattle.rinqebo_findings.proofs.Values.{delays_here}
use Rattle.rinqebo_findings.proofs.delays.table_finding.Goals as goal

pub returns-clause-error : goal.returns-clause-error
returns-clause-error c =
    let source = c.args.refused.now.source in
    delays_here source.layers.now source.position c.args.table.now c.in_ok-at.field-0 c.in_ok-at.ensures.about
    c.in_ok-at.ensures.place
