use Rattle.std.proofs.Common.{◌≡◌, ◌∷◌, [], map, option_map, subst}
use Rattle.std.specs.Prelude.{OnOk, codes}
use Rattle.std.specs.Option.{option_and_then}
use Rattle.nextest_places.specs.Spans.Paths as paths
use Rattle.nextest_tree.specs.Node.{as_table, member_of}
use Rattle.nextest_tree.specs.View.{tree_view}
use Rattle.rinqebo_faults.specs.Edits.{edits_view, mark_of, omit_script, remove, with_edits}
use Rattle.rinqebo_faults.specs.Repairs.{old_names}
use Rattle.rinqebo_faults.proofs.refusal_repairs.leave_out_old_scripts.Goals as goal

pub returns-in-Some : goal.returns-in-Some
returns-in-Some c =
    let end = edits_view c.omit_names.new.edits in
    let file = option_map (λ tree. tree_view tree.now) c.args.tree in
    let scripts = option_and_then as_table (option_and_then (member_of (codes "script")) file) in
    subst (λ v. OnOk c.omit_names.result (end ≡ with_edits v (map omit_script (old_names scripts))))
    c.in_ok-remove.ensures
    (subst
    (λ o. OnOk c.omit_names.result
    (end ≡ with_edits (edits_view c.remove.new.self) (map omit_script (old_names o))))
    c.in-Some.ensures c.omit_names.ensures)

pub returns-in-None : goal.returns-in-None
returns-in-None c =
    subst
    (λ o. edits_view c.remove.new.self ≡ with_edits (edits_view c.args.edits.now)
    (remove (mark_of c.args.place (paths.key (codes "script") ∷ [])) ∷ map omit_script (old_names o)))
    c.in-None.ensures c.in_ok-remove.ensures
