use Rattle.std.proofs.Common.{[]}
use Rattle.nextest_sources.specs.WarningsView.{warnings_view}
use Rattle.rinqebo_checks.proofs.Erring.{of_all, shown_error}
use Rattle.rinqebo_checks.proofs.report.report_of_refusal.Goals as goal

pub returns-clause-faults : goal.returns-clause-faults
returns-clause-faults c =
    record {
      found = c.in_ok-found.found.findings.items;
      all = c.in_ok-found.ensures;
      shows = c.in_ok-report_of.ensures.findings;
    }

pub returns-clause-error : goal.returns-clause-error
returns-clause-error c = λ refused.
    let found = c.in_ok-found.found.findings.items in
    shown_error found c.in_ok-report_of.field-0.findings.items c.in_ok-report_of.ensures.findings
    (of_all c.args.session.now [] (warnings_view c.args.warnings.now) c.args.error.now refused found c.in_ok-found.ensures)
