use Rattle.std.proofs.Common.{[], subst}
use Rattle.nextest_sources.specs.WarningsView.{warnings_view}
use Rattle.rinqebo_findings.specs.NextestForms.{ReportForms}
use Rattle.rinqebo_findings.specs.Shown.{AreReported}
use Rattle.rinqebo_checks.proofs.Erring.{and_later, of_all, shown_error}
use Rattle.rinqebo_checks.proofs.report.report_of_refused_check.Goals as goal

pub returns-clause-faults : goal.returns-clause-faults
returns-clause-faults c = record {
  found = c.in_ok-found.found.findings.items;
  all = c.in_ok-found.ensures;
  of_nextest = c.in_ok-forms.forms.items;
  forms = subst (λ layers. ReportForms layers c.in_ok-forms.forms.items) c.deref.ensures.value c.in_ok-forms.ensures;
  shows = subst (λ all. AreReported all c.in_ok-report_of.field-0.findings.items) c.in_ok-append.ensures.items
      c.in_ok-report_of.ensures.findings;
}

pub returns-clause-error : goal.returns-clause-error
returns-clause-error c = λ refused.
    let found = c.in_ok-found.found.findings.items in
    let shown = c.in_ok-report_of.field-0.findings.items in
    shown_error _ shown
    (subst (λ all. AreReported all shown) c.in_ok-append.ensures.items c.in_ok-report_of.ensures.findings)
    (and_later found c.in_ok-forms.forms.items
    (of_all c.args.session.now [] (warnings_view c.args.warnings.now) c.args.error.now refused found c.in_ok-found.ensures))
