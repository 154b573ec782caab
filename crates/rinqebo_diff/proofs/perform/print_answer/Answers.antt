use Rattle.std.proofs.Common.{string_bytes}
use Rattle.rinqebo_results.proofs.Errors.{memory_lost, memory_told}
use Rattle.rinqebo_diff.proofs.Errors.{findings_told}
use Rattle.rinqebo_diff.proofs.Failing.{page_reported}
use Rattle.rinqebo_diff.proofs.Received.{diff_begun}
use Rattle.rinqebo_diff.proofs.perform.print_answer.Goals as goal

pub returns-in-Ok-render_diff-clause-page : goal.returns-in-Ok-render_diff-clause-page
returns-in-Ok-render_diff-clause-page g c =
    page_reported c.args.request.now c.args.answer.now.diff (string_bytes c.in-Ok-render_diff.page) _ _ _ _ c.in-Ok-render_diff.ensures
    c.as_str-in-Ok-render_diff.ensures.value c.print_page.ensures.page

pub returns-in-Ok-render_diff-clause-begun : goal.returns-in-Ok-render_diff-clause-begun
returns-in-Ok-render_diff-clause-begun g c =
    diff_begun c.args.request.now c.args.answer.now.diff (string_bytes c.in-Ok-render_diff.page) _ _ _
    c.in-Ok-render_diff.ensures c.as_str-in-Ok-render_diff.ensures.value c.print_page.ensures.begun

pub returns-in_default-clause-errors : goal.returns-in_default-clause-errors
returns-in_default-clause-errors g c =
    memory_lost (memory_told _ _ _ c.refuse_for_memory.ensures.status c.refuse_for_memory.ensures.message)

pub returns-in-Ok-render_diff-clause-errors : goal.returns-in-Ok-render_diff-clause-errors
returns-in-Ok-render_diff-clause-errors g c =
    findings_told c.args.request.now c.args.answer.now.diff c.args.answer.now.report _ _ _ _
    (string_bytes c.in-Ok.notes) c.as_str.ensures.value c.in-Ok.ensures c.print_page.ensures.errors

pub returns-clause-errors : goal.returns-clause-errors
returns-clause-errors g c =
    memory_lost (memory_told _ _ _ c.refuse_for_memory-in-Err.ensures.status
    c.refuse_for_memory-in-Err.ensures.message)
