use Rattle.std.proofs.Common.{◌≡◌, ◌∷◌, [], ◌++◌, ◌∙◌, ap, codes, List, ℕ, map, refl, string_bytes}
use Rattle.nextest_places.specs.Spans.Paths.{path_step}
use Rattle.nextest_scripts.specs.ScriptId.{script_text}
use Rattle.rinqebo_report.specs.declared.codes.code.Code.TheVariants.{ListWrapperFilter}
use Rattle.rinqebo_request.specs.declared.files.places.SpanPart.TheVariants as parts
use Rattle.rinqebo_faults.specs.Namings.{naming_path}
use Rattle.rinqebo_findings.proofs.SameWords.{adds_as, same_says}
use Rattle.rinqebo_findings.proofs.unknown_names.add_list_wrapper.Goals as goal

pub returns : goal.returns
returns c =
    let source = c.args.refused.now.source in
    let profile = string_bytes c.args.error.now.profile_name in
    let keys = codes "list-wrapper" ∷ [] in
    let same : c.as_str-name.result.now ≡ script_text c.args.error.now.name =
    c.as_str-name.ensures.value ∙ c.in_ok-id.ensures.ok in
    adds_as source.layers.now source.position parts.Value ListWrapperFilter _ _ _ _ _ _
    (ap (map path_step) c.deref.ensures.value ∙ c.in_ok-path.ensures
    ∙ ap (λ (p : List ℕ). naming_path c.args.namings.now p keys c.as_str-name.result.now) c.as_str-profile.ensures.value
    ∙ ap (λ (n : List ℕ). naming_path c.args.namings.now profile keys n) same)
    (same_says _ _ _ _ _ _
    (c.as_str.ensures.value ∙ c.in_ok-wrong.ensures.ok
    ∙ ap (λ (n : List ℕ). codes "`" ++ (n
    ++ codes "` is a list wrapper, and the filter of its rule has a predicate such as `test(..)`")) same)
    refl refl)
    c.in_ok-add_value.ensures
