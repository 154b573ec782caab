use Rattle.std.proofs.Common.{arith}
use Rattle.rinqebo_results.proofs.Errors.{notes_lost, notes_written}
use Rattle.rinqebo_run.proofs.CheckNotes.{check_written}
use Rattle.rinqebo_run.proofs.run.print_answer.Goals as goal

pub returns-in_default-clause-errors : goal.returns-in_default-clause-errors
returns-in_default-clause-errors g c =
    notes_lost c.args.request.now c.args.answer.now.report _ _ _ _ c.refuse_for_memory.ensures.status
    c.refuse_for_memory.ensures.message

pub returns-in_default-render-clause-errors : goal.returns-in_default-render-clause-errors
returns-in_default-render-clause-errors g c =
    notes_lost c.args.request.now c.args.answer.now.report _ _ _ _
    c.refuse_for_memory-in_default-render.ensures.status c.refuse_for_memory-in_default-render.ensures.message

pub returns-clause-errors : goal.returns-clause-errors
returns-clause-errors g c =
    notes_written c.args.request.now c.args.answer.now.report _ _ c.print_text-told.result _ _
    c.as_str.result.now _ (omega arith)
    c.print_text-told.ensures.written c.as_str.ensures.value c.in-Ok.ensures.notes c.print_text.ensures.status

pub returns-clause-noted : goal.returns-clause-noted
returns-clause-noted g c =
    check_written c.args.request.now c.args.answer.now.report c.args.answer.now.note _ c.print_text-told.result _ _
    c.as_str.result.now _ (omega arith)
    c.print_text-told.ensures.written c.as_str.ensures.value c.in-Ok.ensures.check
