use Rattle.rinqebo_diff.proofs.Failing.{answer_cause, answer_low, answer_quiet, failure_cause, failure_high, failure_low, failure_quiet, has_result, result_or_refusal}
use Rattle.rinqebo_diff.proofs.Errors.{of_answer, of_reason}
use Rattle.rinqebo_diff.proofs.Received.{answer_begun, failure_begun}
use Rattle.std.proofs.Common.{arith}
use Rattle.rinqebo_diff.proofs.perform.perform_diff.Goals as goal

pub returns-in-Ok-clause-status : goal.returns-in-Ok-clause-status
returns-in-Ok-clause-status g c = answer_low c.in-Ok.answer.diff _ c.print_answer.ensures.status

pub returns-in-Ok-clause-page : goal.returns-in-Ok-clause-page
returns-in-Ok-clause-page g c low =
    has_result c.args.request.now c.args.from.now c.args.to.now c.in-Ok.answer.diff _ _ _ c.in-Ok.ensures.ok
    c.print_answer.ensures.status c.print_answer.ensures.page low

pub returns-in-Ok-clause-quiet : goal.returns-in-Ok-clause-quiet
returns-in-Ok-clause-quiet g c = answer_quiet c.in-Ok.answer.diff _ c.print_answer.ensures.quiet

pub returns-in-Ok-clause-cause : goal.returns-in-Ok-clause-cause
returns-in-Ok-clause-cause g c =
    answer_cause c.args.request.now c.args.from.now c.args.to.now c.in-Ok.answer.diff _ c.print_answer.ensures.status

pub returns-in-Err-clause-status : goal.returns-in-Err-clause-status
returns-in-Err-clause-status g c = failure_low c.in-Err.failure _ c.refuse_diff.ensures.status

pub returns-in-Err-clause-page : goal.returns-in-Err-clause-page
returns-in-Err-clause-page g c low =
    let high = failure_high c.in-Err.failure _ c.refuse_diff.ensures.status in
    absurd (omega (arith, high))

pub returns-in-Err-clause-quiet : goal.returns-in-Err-clause-quiet
returns-in-Err-clause-quiet g c =
    failure_quiet c.args.request.now c.args.from.now c.args.to.now c.in-Err.failure _ _ _ c.in-Err.ensures.err
    c.refuse_diff.ensures.quiet

pub returns-in-Err-clause-cause : goal.returns-in-Err-clause-cause
returns-in-Err-clause-cause g c =
    failure_cause c.args.request.now c.args.from.now c.args.to.now c.in-Err.failure _ c.in-Err.ensures.err
    c.refuse_diff.ensures.status

pub returns-in-Ok-clause-refusal : goal.returns-in-Ok-clause-refusal
returns-in-Ok-clause-refusal g c json ends =
    result_or_refusal c.in-Ok.answer.diff _ c.print_answer.ensures.status ends

pub returns-in-Err-clause-refusal : goal.returns-in-Err-clause-refusal
returns-in-Err-clause-refusal g c json ends = record {
  failure = c.in-Err.failure;
  fails = c.in-Err.ensures.err;
  document = c.refuse_diff.ensures.document json ends;
}

pub returns-in-Ok-clause-begun : goal.returns-in-Ok-clause-begun
returns-in-Ok-clause-begun g c =
    answer_begun c.args.request.now c.args.from.now c.args.to.now _ _ c.in-Ok.answer.diff c.in-Ok.ensures.ok
    c.print_answer.ensures.begun

pub returns-in-Err-clause-begun : goal.returns-in-Err-clause-begun
returns-in-Err-clause-begun g c =
    failure_begun c.args.request.now c.args.from.now c.args.to.now _ _ c.in-Err.failure c.in-Err.ensures.err
    c.refuse_diff.ensures.begun

pub returns-in-Ok-clause-errors : goal.returns-in-Ok-clause-errors
returns-in-Ok-clause-errors g c quiet =
    of_answer c.args.request.now c.args.from.now c.args.to.now c.in-Ok.answer.diff c.in-Ok.answer.report _ _ _ _
    (c.in-Ok.ensures.errors quiet) c.in-Ok.ensures.report c.print_answer.ensures.errors

pub returns-in-Err-clause-errors : goal.returns-in-Err-clause-errors
returns-in-Err-clause-errors g c quiet =
    of_reason c.args.request.now c.args.from.now c.args.to.now c.in-Err.failure _ _ _ _ (c.in-Err.ensures.errors quiet)
    c.in-Err.ensures.err c.refuse_diff.ensures.errors
