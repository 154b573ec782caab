-- A group is left out where an error names it.
use Rattle.std.proofs.Common.{◌≡◌, ℕ, Bool, List, refl, subst}
use Rattle.std.specs.Prelude.{OnOk}
use Rattle.std.specs.BTreeSet.{contains_text}
use Rattle.std.specs.List.{list_any}
use Rattle.nextest_tree.specs.View.{entries_view}
use Rattle.rinqebo_faults.specs.Edits.{edits_view, with_edits}
use Rattle.rinqebo_faults.specs.Repairs.{entries_or_none, names_group, profiles_edits}
use Rattle.rinqebo_faults.proofs.refusal_repairs.leave_out_groups.Goals as goal

pub returns-in-Some : goal.returns-in-Some
returns-in-Some c =
    let old = edits_view c.args.edits.now in
    let end = edits_view c.leave_out_marked.new.edits in
    let refused : List ℕ → Bool = λ mark. list_any (names_group mark) c.args.errors.now in
    let same : contains_text c.in_ok-marks.marks ≡ refused = λ i mark. c.in_ok-marks.ensures mark i in
    subst
    (λ profiles. OnOk c.leave_out_marked.result
    (end ≡ with_edits old (profiles_edits c.args.place refused (entries_or_none profiles))))
    c.in-Some.ensures
    (subst
    (λ (test : List ℕ → Bool). OnOk c.leave_out_marked.result
    (end ≡ with_edits old (profiles_edits c.args.place test (entries_view c.in-Some.profiles.now.entries))))
    same c.leave_out_marked.ensures)

pub returns : goal.returns
returns c =
    let old = edits_view c.args.edits.now in
    let refused : List ℕ → Bool = λ mark. list_any (names_group mark) c.args.errors.now in
    subst
    (λ profiles. old ≡ with_edits old (profiles_edits c.args.place refused (entries_or_none profiles)))
    c.in-None.ensures refl
