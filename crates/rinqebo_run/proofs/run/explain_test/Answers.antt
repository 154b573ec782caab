use Rattle.std.proofs.Common.{inr}
use Rattle.std.proofs.lemmas.Result.{IfErr-weaker}
use Rattle.rinqebo_results.specs.LookedUp.{IsFailureOn}
use Rattle.rinqebo_results.proofs.Refused.{is_about}
use Rattle.rinqebo_results.specs.Refused.{IsFailureAboutTest}
use Rattle.rinqebo_run.proofs.run.explain_test.Goals as goal

pub returns-clause-ok : goal.returns-clause-ok
returns-clause-ok c =
    is_about c.args.session.now c.args.test.now _ _ c.explain.result c.in_ok-found.ensures.found c.explain.ensures.status
    c.explain.ensures.ok

pub returns-clause-err : goal.returns-clause-err
returns-clause-err c =
    IfErr-weaker c.explain.result (IsFailureOn c.args.session.now c.args.profile.now)
    (IsFailureAboutTest c.args.session.now c.args.profile.now c.args.test.now) (λ failure is. inr is) c.explain.ensures.err
