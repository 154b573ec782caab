use Rattle.std.proofs.Common.{◌≡◌, ◌∷◌, [], ◌++◌, ◌∙◌, ap, codes, List, ℕ, map, Some, string_bytes, sym, true, false}
use Rattle.nextest_places.specs.Spans.Paths.{path_step}
use Rattle.nextest_scripts.specs.ScriptId.{script_text}
use Rattle.nextest_scripts.specs.ScriptType.{profile_script_type_text, script_type_text}
use Rattle.rinqebo_report.specs.declared.codes.code.Code.TheVariants.{WrongScriptKind}
use Rattle.rinqebo_request.specs.declared.files.places.SpanPart.TheVariants as parts
use Rattle.rinqebo_faults.specs.Edits.{may_be, names_view}
use Rattle.rinqebo_faults.specs.Namings.{naming_path}
use Rattle.rinqebo_findings.specs.Later.{name_fault}
use Rattle.rinqebo_findings.specs.LaterWords.{other_use, says_wrong_kind}
use Rattle.rinqebo_findings.proofs.Later.{adds_none, adds_same}
use Rattle.rinqebo_findings.proofs.LeftOut.{kept, left_out}
use Rattle.rinqebo_findings.proofs.SameWords.{adds_as, same_says}
use Rattle.rinqebo_findings.proofs.unknown_names.add_wrong_kind.Goals as goal

pub returns-then-has : goal.returns-then-has
returns-then-has c =
    let source = c.args.refused.now.source in
    let error = c.args.error.now in
    let names = names_view c.args.refused.now.left_out.now.scripts in
    let name = script_text error.name in
    let is : may_be names name ≡ true =
    ap (may_be names) (sym (c.as_str-name.ensures.value ∙ c.in_ok-id.ensures.ok)) ∙ sym c.has.ensures ∙ c.if-has.true in
    adds_same source.layers.now source.position [] _ _ _
    (left_out names name (name_fault WrongScriptKind c.args.namings.now (string_bytes error.profile_name)
    (profile_script_type_text error.attempted ∷ []) name (says_wrong_kind name error.actual error.attempted)) is)
    (adds_none source.layers.now source.position _)

pub returns : goal.returns
returns c =
    let source = c.args.refused.now.source in
    let error = c.args.error.now in
    let names = names_view c.args.refused.now.left_out.now.scripts in
    let name = script_text error.name in
    let profile = string_bytes error.profile_name in
    let key = profile_script_type_text error.attempted in
    let same : c.as_str-name.result.now ≡ name = c.as_str-name.ensures.value ∙ c.in_ok-id.ensures.ok in
    let is : may_be names name ≡ false = ap (may_be names) (sym same) ∙ sym c.has.ensures ∙ c.if-has.false in
    adds_same source.layers.now source.position _ _ _ _
    (kept names name (name_fault WrongScriptKind c.args.namings.now profile (key ∷ []) name
    (says_wrong_kind name error.actual error.attempted)) is)
    (adds_as source.layers.now source.position parts.Value WrongScriptKind _ _ _ _ _ _
    (ap (map path_step) c.deref.ensures.value ∙ c.in_ok-path.ensures
    ∙ ap (λ (p : List ℕ). naming_path c.args.namings.now p (c.as_str-key.result.now ∷ [])
    c.as_str-name.result.now) c.as_str-profile.ensures.value
    ∙ ap (λ (k : List ℕ). naming_path c.args.namings.now profile (k ∷ []) c.as_str-name.result.now)
    (c.as_str-key.ensures.value ∙ c.in_ok-attempted.ensures.ok)
    ∙ ap (λ (n : List ℕ). naming_path c.args.namings.now profile (key ∷ []) n) same)
    (same_says _ _ _ _ _ _
    (c.as_str.ensures.value ∙ c.in_ok-wrong.ensures.ok
    ∙ ap (λ (n : List ℕ). codes "`"
    ++ (n ++ (codes "` is a " ++ (script_type_text error.actual ++ codes " script")))) same)
    (ap (λ (words : List ℕ). Some words) c.needed_words-expected.ensures)
    (ap (λ (words : List ℕ). Some words) (c.in_ok-help.ensures ∙ ap (other_use error.attempted) same)))
    c.in_ok-add_value.ensures)
