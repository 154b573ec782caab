use Rattle.std.proofs.Common.{◌∙◌, ap}
use Rattle.nextest_documents.specs.Merge.{over}
use Rattle.nextest_tree.specs.View.{tree_view}
use Rattle.rinqebo_faults.specs.Edits.{edits_view}
use Rattle.rinqebo_checks.proofs.LeavingOutValues.{left_out_values}
use Rattle.rinqebo_checks.proofs.Reporting.{none_found, of_values_found}
use Rattle.rinqebo_checks.proofs.file_values.document_findings.Goals as goal

pub returns-clause-reported : goal.returns-clause-reported
returns-clause-reported c =
    of_values_found _ _ _ (tree_view c.in_ok-tree.tree) c.in_ok-faults.faults.items c.in_ok-keys.keys.items _
    c.in_ok-found.found.items _ _ _ _ _
    (c.in_ok-tree.ensures.is ∙ ap (over (tree_view c.args.document.now)) c.in_ok-default_tree.ensures)
    c.in_ok-faults.ensures c.in_ok-keys.ensures c.in_ok-found.ensures.faults
    c.in_ok-found.ensures.strays c.deref-2.ensures.value c.deref-3.ensures.value c.deref-4.ensures.value
    c.in_ok-findings.ensures c.in_ok-warnings.ensures c.in_ok-append.ensures.items

pub returns-clause-sound : goal.returns-clause-sound
returns-clause-sound c = λ none.
    c.in_ok-leave_out_faults.ensures.sound
    (none_found (tree_view c.args.document.now) (tree_view c.in_ok-tree.tree) c.in_ok-faults.faults.items
    c.in_ok-found.found.items c.deref.result.now
    (c.in_ok-tree.ensures.is ∙ ap (over (tree_view c.args.document.now)) c.in_ok-default_tree.ensures)
    c.in_ok-faults.ensures c.in_ok-found.ensures.faults c.deref.ensures.value none)

pub returns-clause-left_out : goal.returns-clause-left_out
returns-clause-left_out c =
    left_out_values c.args.place (tree_view c.args.document.now) (tree_view c.in_ok-tree.tree)
    c.in_ok-faults.faults.items c.in_ok-found.found.items c.deref.result.now (edits_view c.args.edits.now)
    (edits_view c.leave_out_faults.new.edits)
    (c.in_ok-tree.ensures.is ∙ ap (over (tree_view c.args.document.now)) c.in_ok-default_tree.ensures)
    c.in_ok-faults.ensures c.in_ok-found.ensures.faults c.in_ok-found.ensures.strays c.deref.ensures.value
    c.in_ok-leave_out_faults.ensures.edits
