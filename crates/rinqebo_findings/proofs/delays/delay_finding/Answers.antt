use Rattle.std.proofs.Common.{◌∙◌, ap}
use Rattle.rinqebo_findings.specs.Words.{with_note, Words}
use Rattle.rinqebo_findings.proofs.Values.{delays_of}
use Rattle.rinqebo_findings.proofs.delays.delay_finding.Goals as goal

pub returns-clause-error : goal.returns-clause-error
returns-clause-error c =
    let source = c.args.refused.now.source in
    delays_of source.layers.now source.position c.args.fault.now c.in_ok-found.found c.in_ok-with_other.field-0
    c.in_ok-found.ensures.error c.in_ok-with_other.ensures.about c.in_ok-with_other.ensures.place

pub returns-clause-words : goal.returns-clause-words
returns-clause-words c =
    let says = c.in_ok-with_other.ensures.words in
    (says.0, says.1, says.2 ∙ ap (λ (words : Words). with_note words says.0) c.in_ok-found.ensures.words)
