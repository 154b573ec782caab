use Rattle.std.proofs.Common.{◌∙◌}
use Rattle.rinqebo_results.proofs.Refused.{want_reported}
use Rattle.rinqebo_results.proofs.Showing.{shows_config}
use Rattle.rinqebo_results.proofs.Warned.{warned_of}
use Rattle.rinqebo_results.proofs.leaves.show.Goals as goal

pub returns-clause-ok : goal.returns-clause-ok
returns-clause-ok c =
    let config = c.in_ok-config.ensures in
    shows_config c.args.session.now c.args.profile.now _ c.args.with_hidden c.in_ok-answer.answer.report
    c.in_ok-content.content c.in_ok-config.config c.in_ok-answer.answer.status config.accepted config.means config.known
    c.in_ok-answer.ensures.content c.in_ok-content.ensures (c.in_ok-answer.ensures.status ∙ c.status_of-status.ensures)

pub returns-clause-warned : goal.returns-clause-warned
returns-clause-warned c =
    warned_of c.args.session.now _ _ _ c.new-warnings.ensures c.in_ok-config.ensures.warnings c.in_ok-answer.ensures.warned

pub returns-in_err-content-clause-err : goal.returns-in_err-content-clause-err
returns-in_err-content-clause-err c =
    want_reported c.args.session.now c.args.profile.now _ c.from_residual-in_err-content.ensures.1

pub returns-in_err-answer-clause-err : goal.returns-in_err-answer-clause-err
returns-in_err-answer-clause-err c =
    want_reported c.args.session.now c.args.profile.now _ c.from_residual-in_err-answer.ensures.1
