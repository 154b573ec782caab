use Rattle.std.proofs.Common.{◌≡◌, [], ◌++◌, ◌∙◌, ap, codes, List, ℕ, map, string_bytes, sym, true, false}
use Rattle.nextest_places.specs.Spans.Paths.{path_step}
use Rattle.nextest_elements.specs.TestGroup.{custom_group_text}
use Rattle.rinqebo_report.specs.declared.codes.code.Code.TheVariants.{UnknownGroup}
use Rattle.rinqebo_request.specs.declared.files.places.SpanPart.TheVariants as parts
use Rattle.rinqebo_faults.specs.Edits.{may_be, names_view}
use Rattle.rinqebo_faults.specs.Hints.{texts}
use Rattle.rinqebo_faults.specs.Namings.{naming_path}
use Rattle.rinqebo_findings.specs.Later.{group_uses, name_fault}
use Rattle.rinqebo_findings.specs.LaterWords.{says_unknown_group}
use Rattle.rinqebo_findings.proofs.Later.{adds_none, adds_same}
use Rattle.rinqebo_findings.proofs.LeftOut.{kept, left_out}
use Rattle.rinqebo_findings.proofs.SameWords.{adds_as, same_none_of}
use Rattle.rinqebo_findings.proofs.unknown_names.add_unknown_group.Goals as goal

pub returns-then-has : goal.returns-then-has
returns-then-has c =
    let source = c.args.refused.now.source in
    let error = c.args.error.now in
    let names = names_view c.args.refused.now.left_out.now.groups in
    let known = map string_bytes c.args.known.now.keys in
    let name = custom_group_text error.name in
    let profile = string_bytes error.profile_name in
    let is : may_be names name ≡ true =
    ap (may_be names) (sym (c.as_str-name.ensures)) ∙ sym c.has.ensures ∙ c.if-has.true in
    adds_same source.layers.now source.position [] _ _ _
    (left_out names name (name_fault UnknownGroup c.args.namings.now profile group_uses name
    (says_unknown_group name known)) is)
    (adds_none source.layers.now source.position _)

pub returns : goal.returns
returns c =
    let source = c.args.refused.now.source in
    let error = c.args.error.now in
    let names = names_view c.args.refused.now.left_out.now.groups in
    let known = map string_bytes c.args.known.now.keys in
    let name = custom_group_text error.name in
    let profile = string_bytes error.profile_name in
    let is : may_be names name ≡ false =
    ap (may_be names) (sym (c.as_str-name.ensures)) ∙ sym c.has.ensures ∙ c.if-has.false in
    adds_same source.layers.now source.position _ _ _ _
    (kept names name (name_fault UnknownGroup c.args.namings.now profile group_uses name
    (says_unknown_group name known)) is)
    (adds_as source.layers.now source.position parts.Value UnknownGroup _ _ _ _ _ _
    (ap (map path_step) c.deref.ensures.value ∙ c.in_ok-path.ensures
    ∙ ap (λ (p : List ℕ). naming_path c.args.namings.now p group_uses c.as_str-name.result.now)
    c.as_str-profile.ensures.value
    ∙ ap (λ (n : List ℕ). naming_path c.args.namings.now profile group_uses n) (c.as_str-name.ensures))
    (same_none_of _ _ _ _ _ _
    (c.as_str.ensures.value ∙ c.in_ok-wrong.ensures.ok
    ∙ ap (λ (n : List ℕ). codes "unknown group `" ++ (n ++ codes "`")) c.as_str-name.ensures)
    c.as_str-name.ensures
    (ap texts c.deref-2.ensures.value ∙ c.in_ok-names.ensures))
    c.in_ok-add_none_of.ensures)
