use Rattle.rinqebo_request.specs.declared.files.places.SpanPart.TheVariants as parts
use Rattle.rinqebo_findings.proofs.Later.{adds_at}
use Rattle.rinqebo_findings.proofs.parents.add_parent_of.Goals as goal

pub returns : goal.returns
returns c =
    let source = c.args.refused.now.source in
    adds_at source.layers.now source.position parts.Value c.args.code _ _ _ _ _ c.parent_path-path.ensures
    c.in_ok-add_value.ensures
