use Rattle.rinqebo_results.proofs.Refused.{want_evaluated}
use Rattle.rinqebo_results.proofs.Warned.{warned_of}
use Rattle.rinqebo_run.proofs.Rows.{explains}
use Rattle.rinqebo_run.proofs.explain.explain.Goals as goal

pub returns-clause-ok : goal.returns-clause-ok
returns-clause-ok c =
    let config = c.in_ok-config.ensures in
    explains c.args.session.now c.args.profile.now c.args.test.now c.args.asked.now c.in_ok-answer.answer.report
    c.in_ok-content.content c.in_ok-config.config config.accepted config.means config.known c.in_ok-answer.ensures.content
    c.in_ok-content.ensures.told c.in_ok-content.ensures.requested

pub returns-clause-warned : goal.returns-clause-warned
returns-clause-warned c =
    warned_of c.args.session.now _ _ _ c.new-warnings.ensures c.in_ok-config.ensures.warnings c.in_ok-answer.ensures.warned

pub returns-in_err-content-clause-err : goal.returns-in_err-content-clause-err
returns-in_err-content-clause-err c =
    want_evaluated c.args.session.now c.args.profile.now _ c.from_residual-in_err-content.ensures.1

pub returns-in_err-answer-clause-err : goal.returns-in_err-answer-clause-err
returns-in_err-answer-clause-err c =
    want_evaluated c.args.session.now c.args.profile.now _ c.from_residual-in_err-answer.ensures.1
