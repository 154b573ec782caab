use Rattle.std.proofs.Common.{◌∙◌, ap}
use Rattle.rinqebo_report.specs.declared.codes.code.Code.TheVariants.{UnknownParent}
use Rattle.rinqebo_request.specs.declared.files.places.SpanPart.TheVariants as parts
use Rattle.rinqebo_faults.specs.Hints.{texts}
use Rattle.rinqebo_findings.specs.LaterWords.{says_none_of}
use Rattle.rinqebo_findings.proofs.Later.{adds_at, adds_said}
use Rattle.rinqebo_findings.proofs.parents.add_unknown_parent.Goals as goal

pub returns : goal.returns
returns c =
    let source = c.args.refused.now.source in
    adds_said source.layers.now source.position parts.Value UnknownParent _ _ _ _ _
    (ap (λ wrong. says_none_of wrong c.args.parent.now (texts c.args.names.now))
    (c.as_str.ensures.value ∙ c.in_ok-wrong.ensures.ok))
    (adds_at source.layers.now source.position parts.Value UnknownParent _ _ _ _ _ c.parent_path-path.ensures
    c.in_ok-add_none_of.ensures)
