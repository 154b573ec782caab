use Rattle.rinqebo_findings.proofs.Later.{adds_part}
use Rattle.rinqebo_findings.proofs.LaterWords.{said_plainly}
use Rattle.rinqebo_findings.proofs.refused.Refused.add_fault.Goals as goal

pub returns : goal.returns
returns c =
    let source = c.args.self.now.source in
    adds_part source.layers.now source.position c.args.part c.args.code c.args.path.now _ _ _ _
    c.in_ok-found.ensures.about c.in_ok-found.ensures.place
    (said_plainly c.in_ok-found.found c.args.wrong.now c.in_ok-expected.expected c.args.help _
    c.in_ok-found.ensures.words c.in_ok-expected.ensures) c.in_ok-add_finding.ensures
