use Rattle.std.proofs.Common.{refl}
use Rattle.rinqebo_diff.proofs.Failing.{diff_wants, left_fails, right_fails}
use Rattle.rinqebo_diff.proofs.Evaluating.{differs_as_loaded}
use Rattle.rinqebo_diff.proofs.perform.diff_answer.Goals as goal

pub diff_of-requires-clause-from : goal.diff_of-requires-clause-from
diff_of-requires-clause-from g c = c.in_ok-left.ensures.ok.known

pub diff_of-requires-clause-to : goal.diff_of-requires-clause-to
diff_of-requires-clause-to g c = c.in_ok-right.ensures.ok.known

pub returns-clause-ok : goal.returns-clause-ok
returns-clause-ok g c =
    differs_as_loaded c.args.request.now c.args.from.now c.args.to.now c.in_ok-left.left c.in_ok-right.right
    c.in_ok-diff.diff c.in_ok-left.ensures.ok c.in_ok-right.ensures.ok c.in_ok-diff.ensures

pub returns-in_err-left-clause-err : goal.returns-in_err-left-clause-err
returns-in_err-left-clause-err g c =
    left_fails c.args.request.now c.args.from.now c.args.to.now _ c.in_err-left.field-0.0 c.from_residual.ensures.1
    c.in_err-left.ensures.err

pub returns-in_err-right-clause-err : goal.returns-in_err-right-clause-err
returns-in_err-right-clause-err g c =
    right_fails c.args.request.now c.args.from.now c.args.to.now _ c.in_err-right.field-0.0
    c.from_residual-in_err-right.ensures.1 (c.in_ok-left.left, c.in_ok-left.ensures.ok) c.in_err-right.ensures.err

pub returns-in_err-diff-clause-err : goal.returns-in_err-diff-clause-err
returns-in_err-diff-clause-err g c =
    diff_wants c.args.request.now c.args.from.now c.args.to.now _ c.from_residual-in_err-diff.ensures.1

pub returns-clause-report : goal.returns-clause-report
returns-clause-report g c = record {
  loaded = c.in_ok-right.right;
  is_loaded = c.in_ok-right.ensures.ok;
  is_report = refl;
}
