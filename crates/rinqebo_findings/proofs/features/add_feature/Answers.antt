use Rattle.std.proofs.Common.{◌∙◌, ap, map, refl, Some, List, ℕ}
use Rattle.nextest_places.specs.Spans.Paths.{path_step}
use Rattle.rinqebo_report.specs.declared.codes.code.Code.TheVariants.{FeatureOff}
use Rattle.rinqebo_request.specs.declared.files.places.SpanPart.TheVariants as parts
use Rattle.rinqebo_faults.specs.Features.{feature_help, feature_path}
use Rattle.rinqebo_findings.proofs.SameWords.{adds_as, same_says}
use Rattle.rinqebo_findings.proofs.features.add_feature.Goals as goal

pub returns : goal.returns
returns c =
    let source = c.args.refused.now.source in
    adds_as source.layers.now source.position parts.Key FeatureOff _ _ _ _ _ _
    (ap (map path_step) c.deref.ensures.value ∙ c.in_ok-path.ensures
    ∙ ap (λ file. feature_path file c.args.name.now) c.tree-tree.ensures)
    (same_says _ _ _ _ _ _ (c.as_str.ensures.value ∙ c.in_ok-wrong.ensures.ok) refl
    (ap (λ (words : List ℕ). Some words)
    (c.in_ok-help.ensures ∙ ap (λ file. feature_help file c.args.name.now c.args.missing.now) c.tree-tree.ensures)))
    c.in_ok-add_fault.ensures
