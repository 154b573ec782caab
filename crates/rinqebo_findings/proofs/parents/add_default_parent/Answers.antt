use Rattle.std.proofs.Common.{◌∙◌, None, Some, ap, codes}
use Rattle.std.proofs.lemmas.Result.{on_ok_weaker}
use Rattle.rinqebo_report.specs.declared.codes.code.Code.TheVariants.{DefaultInherits}
use Rattle.rinqebo_request.specs.declared.files.places.SpanPart.TheVariants as parts
use Rattle.rinqebo_findings.specs.LaterWords.{says}
use Rattle.rinqebo_findings.proofs.Later.{adds_said}
use Rattle.rinqebo_findings.proofs.parents.add_default_parent.Goals as goal

pub returns : goal.returns
returns c =
    let source = c.args.refused.now.source in
    on_ok_weaker c.add_parent_of.result
    (adds_said source.layers.now source.position parts.Value DefaultInherits _ _ _ _ _
    (ap (λ wrong. says wrong (Some (codes "no `inherits` in this profile")) None)
    (c.as_str.ensures.value ∙ c.in_ok-wrong.ensures.ok))) c.add_parent_of.ensures
