use Rattle.std.proofs.Common.{◌∙◌, None, Some, ap, codes}
use Rattle.std.proofs.lemmas.Result.{on_ok_weaker}
use Rattle.rinqebo_report.specs.declared.codes.code.Code.TheVariants.{InheritsItself}
use Rattle.rinqebo_request.specs.declared.files.places.SpanPart.TheVariants as parts
use Rattle.rinqebo_findings.specs.LaterWords.{says}
use Rattle.rinqebo_findings.proofs.Later.{adds_said}
use Rattle.rinqebo_findings.proofs.parents.add_own_parent.Goals as goal

pub returns : goal.returns
returns c =
    let source = c.args.refused.now.source in
    on_ok_weaker c.add_parent_of.result
    (adds_said source.layers.now source.position parts.Value InheritsItself _ _ _ _ _
    (ap (λ wrong. says wrong (Some (codes "the name of another profile")) None)
    (c.as_str.ensures.value ∙ c.in_ok-wrong.ensures.ok))) c.add_parent_of.ensures
