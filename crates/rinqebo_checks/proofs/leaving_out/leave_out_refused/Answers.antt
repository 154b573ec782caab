use Rattle.std.proofs.Common.{◌≡◌, inl, inr, length, option_map, subst}
use Rattle.std.specs.Prelude.{OnOk}
use Rattle.nextest_tree.specs.View.{tree_view}
use Rattle.rinqebo_faults.specs.Edits.{edits_view, with_edits}
use Rattle.rinqebo_faults.specs.Repairs.{old_scripts_edits, parents_edits, sections_edits, unknown_groups_edits}
use Rattle.rinqebo_checks.proofs.leaving_out.leave_out_refused.Goals as goal

pub returns-in-InvalidTestGroupsDefined : goal.returns-in-InvalidTestGroupsDefined
returns-in-InvalidTestGroupsDefined c =
    elim c.in-InvalidTestGroupsDefined.is [
      | inl is ↦ rw is c.leave_out_foreign_groups.ensures
      | inr more ↦
          elim more [
            | inl is ↦ rw is c.leave_out_foreign_groups.ensures
            | inr is ↦ rw is c.leave_out_foreign_groups.ensures
          ]
    ]

pub returns-in-BothScriptAndScriptsDefined : goal.returns-in-BothScriptAndScriptsDefined
returns-in-BothScriptAndScriptsDefined c =
    let old = edits_view c.args.edits.now in
    let end = edits_view c.leave_out_old_scripts.new.edits in
    rw c.in-BothScriptAndScriptsDefined.is (subst
    (λ file. OnOk c.leave_out_old_scripts.result (end ≡ with_edits old (old_scripts_edits c.args.place file)))
    c.tree-tree.ensures c.leave_out_old_scripts.ensures)

pub returns-in-DuplicateConfigScriptNames : goal.returns-in-DuplicateConfigScriptNames
returns-in-DuplicateConfigScriptNames c =
    elim c.in-DuplicateConfigScriptNames.is [
      | inl is ↦ rw is c.leave_out_scripts.ensures
      | inr more ↦
          elim more [
            | inl is ↦ rw is c.leave_out_scripts.ensures
            | inr most ↦
                elim most [
                  | inl is ↦ rw is c.leave_out_scripts.ensures
                  | inr is ↦ rw is c.leave_out_scripts.ensures
                ]
          ]
    ]

pub returns-in-InheritanceErrors : goal.returns-in-InheritanceErrors
returns-in-InheritanceErrors c =
    let old = edits_view c.args.edits.now in
    let end = edits_view c.leave_out_parents.new.edits in
    rw c.in-InheritanceErrors.is (subst
    (λ errors. OnOk c.leave_out_parents.result (end ≡ with_edits old (parents_edits (length c.args.layers.now) errors)))
    c.deref.ensures.value c.leave_out_parents.ensures)

pub returns-in-CompileErrors : goal.returns-in-CompileErrors
returns-in-CompileErrors c =
    let old = edits_view c.args.edits.now in
    let end = edits_view c.leave_out_sections.new.edits in
    rw c.in-CompileErrors.is (subst
    (λ errors. OnOk c.leave_out_sections.result (end ≡ with_edits old (sections_edits c.args.place errors)))
    c.deref-in-CompileErrors.ensures.value c.leave_out_sections.ensures)

pub returns-in-UnknownTestGroups : goal.returns-in-UnknownTestGroups
returns-in-UnknownTestGroups c =
    let old = edits_view c.args.edits.now in
    let end = edits_view c.leave_out_groups.new.edits in
    rw c.in-UnknownTestGroups.is (subst
    (λ file. OnOk c.leave_out_groups.result (end ≡ with_edits old (unknown_groups_edits c.args.place file
    c.in-UnknownTestGroups.errors.items)))
    c.tree-tree.ensures (subst
    (λ errors. OnOk c.leave_out_groups.result (end ≡ with_edits old (unknown_groups_edits c.args.place (option_map (λ tree. tree_view tree.now) c.tree-tree.result) errors)))
    c.deref-in-UnknownTestGroups.ensures.value c.leave_out_groups.ensures))
