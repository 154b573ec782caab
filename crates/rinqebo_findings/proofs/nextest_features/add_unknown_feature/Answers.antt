use Rattle.std.proofs.lemmas.Result.{on_ok_weaker}
use Rattle.rinqebo_report.specs.declared.codes.code.Code.TheVariants.{InvalidValue}
use Rattle.rinqebo_request.specs.declared.files.places.SpanPart.TheVariants as parts
use Rattle.rinqebo_findings.proofs.Forms.{forms_at}
use Rattle.rinqebo_findings.proofs.nextest_features.add_unknown_feature.Goals as goal

pub returns : goal.returns
returns c =
    let source = c.args.refused.now.source in
    on_ok_weaker c.add_finding.result
    (forms_at source.layers.now source.position parts.Key InvalidValue c.args.path.now _ _ _
    c.in_ok-found.ensures.about c.in_ok-found.ensures.place)
    c.add_finding.ensures
