use Rattle.rinqebo_results.proofs.Errors.{more, start_notes}
use Rattle.rinqebo_results.specs.StandardError.{is_json}
use Rattle.rinqebo_run.proofs.CheckNotes.{check_notes, files_noted, result_noted}
use Rattle.rinqebo_run.proofs.run.notes_on.Goals as goal

pub returns-clause-notes : goal.returns-clause-notes
returns-clause-notes c =
    let json = is_json c.args.request.now.format in
    let first = start_notes json _ _ _ c.in_ok-notes.ensures c.in_ok-add_unset.ensures.notes in
    let files = files_noted c.args.request.now.format _ _ c.in_ok-add_read_files.ensures in
    let last = result_noted json c.args.answer.now.note _ _ c.in_ok-add_note.ensures in
    more json _ _ _ (more json _ _ _ first files) last

pub returns-clause-check : goal.returns-clause-check
returns-clause-check c check =
    check_notes c.args.request.now c.args.answer.now.report c.args.answer.now.note _ _ _ _ c.in_ok-notes.ensures
    (c.in_ok-add_unset.ensures.check check) c.in_ok-add_read_files.ensures c.in_ok-add_note.ensures
