use Rattle.std.proofs.Common.{List, subst}
use Rattle.nextest_sources.specs.WarningsView.{warnings_view}
use Rattle.rinqebo_findings.specs.NextestForms.{ReportForms}
use Rattle.rinqebo_findings.specs.Warnings.{ReportWarnings}
use Rattle.rinqebo_request.specs.declared.files.layers.Layer.{Layer}
use Rattle.rinqebo_run.proofs.check.accepted_findings.Goals as goal

pub returns : goal.returns
returns c =
    let warnings = warnings_view c.args.warnings.now in
    let told = c.in_ok-findings.findings.items in
    let forms = c.in_ok-of_nextest.of_nextest.items in
    record {
      told = told;
      reports = subst (λ (layers : List Layer). ReportWarnings layers warnings told) c.deref.ensures.value
          c.in_ok-findings.ensures;
      forms = forms;
      refused = subst (λ (layers : List Layer). ReportForms layers forms) c.deref-2.ensures.value
          c.in_ok-of_nextest.ensures;
      are = c.in_ok-append.ensures.items;
    }
