use Rattle.std.proofs.Common.{◌∙◌, ap, List, ℕ, map, Some}
use Rattle.nextest_places.specs.Spans.Paths.{path_step}
use Rattle.rinqebo_request.specs.declared.files.places.SpanPart.TheVariants as parts
use Rattle.rinqebo_findings.proofs.Later.{adds_said}
use Rattle.rinqebo_findings.proofs.SameWords.{same_says}
use Rattle.rinqebo_findings.proofs.foreign.add_unprefixed.Goals as goal

pub returns : goal.returns
returns c =
    let source = c.args.refused.now.source in
    adds_said source.layers.now source.position parts.Key c.args.code (map path_step c.args.path.now) _ _ _ _
    (same_says _ _ _ _ _ _
    (c.as_str.ensures.value ∙ c.in_ok-wrong.ensures.ok)
    (ap (λ (words : List ℕ). Some words) (c.as_str-2.ensures.value ∙ c.in_ok-expected.ensures.ok))
    c.in_ok-help.ensures)
    c.in_ok-add_key.ensures
