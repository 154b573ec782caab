-- The rules of the profiles of each of three lists of errors are left out.
use Rattle.std.proofs.Common.{◌≡◌, ◌∙◌, ◌++◌, List, ℕ, ap, map, subst, sym, string_bytes}
use Rattle.std.specs.Prelude.{OnOk}
use Rattle.std.proofs.lemmas.List.{map-append}
use Rattle.std.proofs.lemmas.List.Sums.{fold-append}
use Rattle.nextest_sources.specs.declared.error.scripts.ProfileListScriptUsesRunFiltersError.{ProfileListScriptUsesRunFiltersError}
use Rattle.nextest_sources.specs.declared.error.scripts.ProfileUnknownScriptError.{ProfileUnknownScriptError}
use Rattle.nextest_sources.specs.declared.error.scripts.ProfileWrongConfigScriptTypeError.{ProfileWrongConfigScriptTypeError}
use Rattle.rinqebo_faults.specs.Edits.{EditsView, edits_view, with_edit, with_edits}
use Rattle.rinqebo_faults.specs.Repairs.{rules_edit}
use Rattle.rinqebo_faults.proofs.refusal_repairs.leave_out_script_rules.Goals as goal

three : (place : ℕ) (old one two : EditsView) (a b c : List (List ℕ))
    → one ≡ with_edits old (map (rules_edit place) a) → two ≡ with_edits one (map (rules_edit place) b)
    → with_edits two (map (rules_edit place) c) ≡ with_edits old (map (rules_edit place) (a ++ (b ++ c)))
three place old one two a b c first second =
    let edits = map (rules_edit place) in
    ap (λ v. with_edits v (edits c)) (second ∙ ap (λ v. with_edits v (edits b)) first)
    ∙ sym (fold-append with_edit (with_edits old (edits a)) (edits b) (edits c))
    ∙ sym (fold-append with_edit old (edits a) (edits b ++ edits c))
    ∙ ap (with_edits old)
    (ap (λ l. edits a ++ l) (sym (map-append (rules_edit place) b c))
    ∙ sym (map-append (rules_edit place) a (b ++ c)))

abbrev unknown : List ProfileUnknownScriptError → List (List ℕ)
unknown errors = map (λ error. string_bytes error.profile_name) errors

abbrev wrong : List ProfileWrongConfigScriptTypeError → List (List ℕ)
wrong errors = map (λ error. string_bytes error.profile_name) errors

abbrev filtered : List ProfileListScriptUsesRunFiltersError → List (List ℕ)
filtered errors = map (λ error. string_bytes error.profile_name) errors

same_lists : (a a' : List ProfileUnknownScriptError) (b b' : List ProfileWrongConfigScriptTypeError)
    (c c' : List ProfileListScriptUsesRunFiltersError) → a ≡ a' → b ≡ b' → c ≡ c'
    → unknown a ++ (wrong b ++ filtered c) ≡ unknown a' ++ (wrong b' ++ filtered c')
same_lists a a' b b' c c' first second third =
    ap (λ l. unknown l ++ (wrong b ++ filtered c)) first
    ∙ ap (λ l. unknown a' ++ (wrong l ++ filtered c)) second
    ∙ ap (λ l. unknown a' ++ (wrong b' ++ filtered l)) third

pub returns : goal.returns
returns c =
    let end = edits_view c.leave_out_filtered.new.edits in
    let old = edits_view c.args.edits.now in
    subst (λ v. OnOk c.leave_out_filtered.result (end ≡ v))
    (three c.args.place old _ _ (unknown c.deref.result.now) (wrong c.deref-2.result.now) (filtered c.deref-3.result.now)
    c.in_ok-leave_out_unknown.ensures c.in_ok-leave_out_wrong.ensures
    ∙ ap (λ profiles. with_edits old (map (rules_edit c.args.place) profiles))
    (same_lists _ _ _ _ _ _ c.deref.ensures.value c.deref-2.ensures.value c.deref-3.ensures.value))
    c.leave_out_filtered.ensures
