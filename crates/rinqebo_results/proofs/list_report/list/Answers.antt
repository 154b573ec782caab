use Rattle.std.proofs.Common.{◌∙◌, ◌++◌, ap, subst, sym}
use Rattle.rinqebo_load.specs.Warned.{warnings_met}
use Rattle.rinqebo_results.proofs.Listing.{tells_tests}
use Rattle.rinqebo_results.proofs.Refused.{want_evaluated}
use Rattle.rinqebo_results.proofs.Warned.{begins_all, warned_of}
use Rattle.rinqebo_results.specs.Listed.{HasObjects}
use Rattle.rinqebo_results.proofs.list_report.list.Goals as goal

pub returns-clause-ok : goal.returns-clause-ok
returns-clause-ok g c =
    tells_tests c.args.session.now c.args.profile.now c.args.mode c.args.asked.now c.in_ok-report.report
    c.in_ok-content.content c.in_ok-config.config c.in_ok-config.ensures.accepted c.in_ok-config.ensures.means
    c.in_ok-config.ensures.known c.in_ok-report.ensures.content c.in_ok-content.ensures.told
    c.in_ok-content.ensures.requested

pub returns-clause-warned : goal.returns-clause-warned
returns-clause-warned g c =
    warned_of c.args.session.now _ _ _ c.new-warnings.ensures c.in_ok-config.ensures.warnings (record {
      found = c.in_ok-findings.findings.items;
      begin = begins_all _ _ _ _ c.deref.ensures.value c.in_ok-findings.ensures;
      shows = c.in_ok-report.ensures.findings;
    })

pub returns-clause-objects : goal.returns-clause-objects
returns-clause-objects g c =
    let met = warnings_met c.args.session.now in
    subst (HasObjects met) (sym c.in_ok-report.ensures.content)
    (subst (λ warnings. HasObjects warnings c.in_ok-content.content)
    (c.in_ok-config.ensures.warnings ∙ ap (λ old. old ++ met) c.new-warnings.ensures) c.in_ok-content.ensures.objects)

pub returns-in_err-findings-clause-err : goal.returns-in_err-findings-clause-err
returns-in_err-findings-clause-err g c =
    want_evaluated c.args.session.now c.args.profile.now _ c.from_residual-in_err-findings.ensures.1

pub returns-in_err-content-clause-err : goal.returns-in_err-content-clause-err
returns-in_err-content-clause-err g c =
    want_evaluated c.args.session.now c.args.profile.now _ c.from_residual-in_err-content.ensures.1

pub returns-in_err-report-clause-err : goal.returns-in_err-report-clause-err
returns-in_err-report-clause-err g c =
    want_evaluated c.args.session.now c.args.profile.now _ c.from_residual-in_err-report.ensures.1
