use Rattle.rinqebo_request.specs.declared.files.places.SpanPart.TheVariants as parts
use Rattle.rinqebo_findings.proofs.Later.{adds_part}
use Rattle.rinqebo_findings.proofs.LaterWords.{said_none_of}
use Rattle.rinqebo_findings.proofs.refused.Refused.add_none_of.Goals as goal

pub returns : goal.returns
returns c =
    let source = c.args.self.now.source in
    adds_part source.layers.now source.position parts.Value c.args.code c.args.path.now _ _ _ _
    c.in_ok-found.ensures.about c.in_ok-found.ensures.place
    (said_none_of c.in_ok-found.found c.args.wrong.now c.args.name.now c.args.known.now c.in_ok-expected.expected
    c.in_ok-help.help c.in_ok-found.ensures.words c.in_ok-expected.ensures c.in_ok-help.ensures)
    c.in_ok-add_finding.ensures
