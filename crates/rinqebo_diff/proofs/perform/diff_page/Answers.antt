use Rattle.rinqebo_diff.specs.Failing.{DiffFails}
use Rattle.rinqebo_diff.proofs.Failing.{diff_wants, handed_on}
use Rattle.rinqebo_diff.proofs.perform.diff_page.Goals as goal

pub returns-clause-ok : goal.returns-clause-ok
returns-clause-ok c = record {
  diff = c.in_ok-answer.answer.diff;
  differs = c.in_ok-answer.ensures.ok;
  is_text = c.in_ok-render_diff.ensures;
}

pub returns-in_err-answer-clause-err : goal.returns-in_err-answer-clause-err
returns-in_err-answer-clause-err c =
    handed_on (DiffFails c.args.request.now c.args.from.now c.args.to.now) _ c.in_err-answer.field-0.0
    c.from_residual.ensures.1 c.in_err-answer.ensures.err

pub returns-in_err-render_diff-clause-err : goal.returns-in_err-render_diff-clause-err
returns-in_err-render_diff-clause-err c =
    diff_wants c.args.request.now c.args.from.now c.args.to.now _ c.from_residual-in_err-render_diff.ensures.1
