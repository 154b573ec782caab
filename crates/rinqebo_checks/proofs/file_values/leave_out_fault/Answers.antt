use Rattle.std.proofs.Common.{◌∙◌, ◌++◌, ap}
use Rattle.rinqebo_faults.specs.Edits.{edits_view, with_edits}
use Rattle.rinqebo_faults.specs.ElementRepairs.{element_edits}
use Rattle.rinqebo_checks.specs.Faults.{stray_edits}
use Rattle.rinqebo_checks.proofs.LeavingOutValues.{two_edits}
use Rattle.rinqebo_checks.proofs.file_values.leave_out_fault.Goals as goal

pub returns : goal.returns
returns c =
    let found = c.args.found.now in
    let place = c.args.place in
    let old = edits_view c.args.edits.now in
    let path = c.as_slice-path.result.now in
    two_edits old (edits_view c.leave_out_stray.new.edits) (edits_view c.leave_out_element.new.edits)
    (stray_edits place path found.stray) (element_edits place found.fault.cause path)
    c.in_ok-leave_out_stray.ensures c.in_ok-leave_out_element.ensures
    ∙ ap (λ steps. with_edits old
    (stray_edits place steps found.stray ++ element_edits place found.fault.cause steps)) c.as_slice-path.ensures.value
