-- What is read in place of a section that is refused for each kind of fault.
use Rattle.std.proofs.Common.{◌≡◌, ◌∙◌, ◌++◌, ◌||◌, ℕ, Bool, true, false, List, is_some, ap, codes, map, subst, sym}
use Rattle.std.specs.Prelude.{OnOk}
use Rattle.std.proofs.lemmas.List.Sums.{fold-append}
use Rattle.nextest_places.specs.Spans.Paths.{PathStep, path_step}
use Rattle.rinqebo_faults.specs.Edits.{Edit, EditsView, edits_view, with_edit, with_edits}
use Rattle.rinqebo_faults.specs.Repairs.{any_filter, any_platform, kind_edits, text_edits}
use Rattle.rinqebo_faults.proofs.refusal_repairs.leave_out_kind_of_section.Goals as goal
use Rattle.rinqebo_faults.proofs.refusal_repairs.leave_out_kind_of_section.Goals.{then-is_some, else-is_some}

three : (old one two : EditsView) (a b c : List Edit) → one ≡ with_edits old a → two ≡ with_edits one b
    → with_edits two c ≡ with_edits old (a ++ (b ++ c))
three old one two a b c first second =
    ap (λ v. with_edits v c) (second ∙ ap (λ v. with_edits v b) first)
    ∙ sym (fold-append with_edit (with_edits old a) b c) ∙ sym (fold-append with_edit old a (b ++ c))

either : (one other both : Bool) → one ≡ true → both ≡ true → both ≡ (one || other)
either one other both first is = is ∙ sym (ap (λ b. b || other) first)

neither : (one other both : Bool) → one ≡ false → both ≡ other → both ≡ (one || other)
neither one other both first is = is ∙ sym (ap (λ b. b || other) first)

pub returns-in-ConstraintsNotSpecified : goal.returns-in-ConstraintsNotSpecified
returns-in-ConstraintsNotSpecified c =
    subst
    (λ kind. OnOk c.add.result (edits_view c.add.new.self
    ≡ with_edits (edits_view c.args.edits.now) (kind_edits c.args.place (map path_step c.args.section.now) kind)))
    (sym c.in-ConstraintsNotSpecified.is) c.add.ensures

abbrev parts : ℕ → List PathStep → Bool → Bool → Bool → List Edit
parts place section platform filter other =
    text_edits place section (codes "platform") any_platform platform
    ++ (text_edits place section (codes "filter") any_filter filter
    ++ text_edits place section (codes "default-filter") any_filter other)

same_parts : (place : ℕ) (section : List PathStep) (p p' f f' o o' : Bool) → p ≡ p' → f ≡ f' → o ≡ o'
    → parts place section p f o ≡ parts place section p' f' o'
same_parts place section p p' f f' o o' first second third =
    ap (λ b. parts place section b f o) first ∙ ap (λ b. parts place section p' b o) second
    ∙ ap (λ b. parts place section p' f' b) third

pub returns-in_ok-replace_key-in-Parse-2 : goal.returns-in_ok-replace_key-in-Parse-2
returns-in_ok-replace_key-in-Parse-2 c =
    let old = edits_view c.args.edits.now in
    let end = edits_view c.replace_key-in-Parse-2.new.edits in
    let place = c.args.place in
    let section = map path_step c.args.section.now in
    let host = is_some c.in-Parse.host_parse_error in
    let target = is_some c.in-Parse.target_parse_error in
    let platform : c.if-is_some.platform ≡ (host || target) =
    elim c.if-is_some.branch [
      | then-is_some w ↦ either host target _ (sym c.is_some.ensures ∙ w.if-is_some.true) (w.platform-is ∙ w.if-is_some.true)
      | else-is_some w ↦
          neither host target _ (sym c.is_some.ensures ∙ w.if-is_some.false) (w.platform-is ∙ w.is_some-platform.ensures)
    ] in
    subst
    (λ kind. OnOk c.replace_key-in-Parse-2.result (end ≡ with_edits old (kind_edits place section kind)))
    (sym c.in-Parse.is)
    (subst (λ v. OnOk c.replace_key-in-Parse-2.result (end ≡ v))
    (three old _ _ (text_edits place section (codes "platform") any_platform c.if-is_some.platform)
    (text_edits place section (codes "filter") any_filter c.is_some-filter.result)
    (text_edits place section (codes "default-filter") any_filter c.is_some-default.result)
    c.in_ok-replace_key-in-Parse.ensures c.in_ok-replace_key-in-Parse-2.ensures
    ∙ ap (with_edits old)
    (same_parts place section _ _ _ _ _ _ platform c.is_some-filter.ensures c.is_some-default.ensures))
    c.replace_key-in-Parse-2.ensures)
