use Rattle.std.proofs.Common.{◌≡◌, ◌∙◌, ◌∷◌, [], ap, List, ℕ, map, None, string_bytes}
use Rattle.nextest_places.specs.Spans.Paths.{path_step}
use Rattle.rinqebo_request.specs.declared.files.places.SpanPart.TheVariants as parts
use Rattle.rinqebo_faults.specs.Paths.{section_path}
use Rattle.rinqebo_findings.specs.Later.{at}
use Rattle.rinqebo_findings.specs.LaterWords.{says}
use Rattle.rinqebo_findings.proofs.Later.{adds_same}
use Rattle.rinqebo_checks.proofs.Compiling.{adds_alone}
use Rattle.rinqebo_checks.proofs.refusals.add_section.Goals as goal

pub returns : goal.returns
returns c =
    let source = c.args.refused.now.source in
    let error = c.args.error.now in
    let path : map path_step c.deref.result.now ≡ section_path (string_bytes error.profile_name) error.section =
    ap (map path_step) c.deref.ensures.value ∙ c.in_ok-path.ensures
    ∙ ap (λ (name : List ℕ). section_path name error.section) c.as_str-profile.ensures.value in
    adds_alone source.layers.now source.position parts.Value _ _ c.as_str.result.now _ _
    (adds_same source.layers.now source.position _ _ _ _
    (λ i. at parts.Value (c.section_code-code.ensures i) (path i) (says c.as_str.result.now None None) ∷ [])
    c.in_ok-add_fault.ensures)
