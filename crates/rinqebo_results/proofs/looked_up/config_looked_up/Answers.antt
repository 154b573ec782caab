use Rattle.rinqebo_results.proofs.LookedUp.{on_about}
use Rattle.rinqebo_results.proofs.Refused.{passed_on}
use Rattle.rinqebo_results.specs.LookedUp.{IsFailureOn}
use Rattle.rinqebo_results.proofs.looked_up.config_looked_up.Goals as goal

pub returns-in_err-config-clause-err : goal.returns-in_err-config-clause-err
returns-in_err-config-clause-err c =
    let session = c.args.session.now in
    let name = c.args.profile.now in
    passed_on (IsFailureOn session name) _ c.in_err-config.field-0.0 c.from_residual.ensures.1
    (on_about session name c.in_err-config.field-0.0 c.in_err-config.ensures.err)
