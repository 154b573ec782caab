use Rattle.std.proofs.Common.{◌≡◌, ◌∙◌, Bool, true, [], ◌∷◌, ap, subst, sym, codes}
use Rattle.std.specs.Prelude.{OnOk, if◌then◌else◌}
use Rattle.std.specs.BTreeSet.{contains_text}
use Rattle.rinqebo_faults.specs.Edits.{edits_view, mark_of, remove, with_edits}
use Rattle.rinqebo_faults.specs.Repairs.{naming_mark, override_path, rule_edits}
use Rattle.rinqebo_faults.proofs.refusal_repairs.leave_out_group.Goals as goal

pub returns : goal.returns
returns c =
    let old = edits_view c.args.edits.now in
    let end = edits_view c.remove.new.self in
    let place = c.args.place in
    let profile = c.args.profile.now in
    let refused = contains_text c.args.marks.now in
    let key = codes "test-group" in
    let is : refused (naming_mark profile key c.in-Some.group.now) ≡ true =
    ap refused (sym (c.as_str.ensures.value ∙ c.in_ok-mark.ensures)) ∙ sym c.contains.ensures ∙ c.if-not-contains.false in
    subst (λ group. OnOk c.remove.result (end ≡ with_edits old (rule_edits place refused profile c.args.index group)))
    c.in-Some.ensures
    (subst
    (λ (b : Bool). OnOk c.remove.result
    (end ≡ with_edits old (if b then remove (mark_of place (override_path profile c.args.index key)) ∷ [] else [])))
    (sym is) c.remove.ensures)
