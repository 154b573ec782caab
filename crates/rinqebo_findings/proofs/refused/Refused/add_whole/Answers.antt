use Rattle.std.proofs.Common.{◌∙◌, ap, option_map}
use Rattle.rinqebo_report.specs.declared.origin.FilePlace.{FilePlace}
use Rattle.rinqebo_findings.proofs.Later.{adds_file, whole_source}
use Rattle.rinqebo_findings.specs.Words.{message_alone}
use Rattle.rinqebo_findings.proofs.refused.Refused.add_whole.Goals as goal

pub returns : goal.returns
returns c =
    let source = c.args.self.now.source in
    adds_file source.layers.now source.position c.args.code _ _ _ _ c.in_ok-found.ensures.about
    (ap (option_map (λ (place : FilePlace). place.source)) c.in_ok-found.ensures.place ∙ whole_source source.position)
    (c.in_ok-found.ensures.words ∙ ap message_alone c.in_ok-from_str.ensures.ok)
    c.in_ok-add_finding.ensures
