use Rattle.std.proofs.Common.{subst}
use Rattle.rinqebo_findings.specs.Warnings.{ReportWarnings}
use Rattle.rinqebo_findings.proofs.load_warnings.warning_findings.Goals as goal

pub returns : goal.returns
returns c =
    subst (λ ws. ReportWarnings c.args.layers.now ws c.in_ok-all_findings.field-0.items) c.warnings.ensures c.in_ok-all_findings.ensures
