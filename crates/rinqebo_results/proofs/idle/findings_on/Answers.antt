use Rattle.std.proofs.Common.{subst}
use Rattle.nextest_sources.specs.WarningsView.{warnings_view}
use Rattle.rinqebo_findings.specs.Warnings.{ReportWarnings}
use Rattle.rinqebo_results.proofs.idle.findings_on.Goals as goal

pub returns : goal.returns
returns c = record {
  told = c.in_ok-findings.findings.items;
  reports = subst (λ layers. ReportWarnings layers (warnings_view c.args.warnings.now) c.in_ok-findings.findings.items)
      c.deref.ensures.value c.in_ok-findings.ensures;
  others = c.in_ok-idle.idle.items;
  are = c.in_ok-append.ensures.items;
}
