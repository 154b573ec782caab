use Rattle.std.proofs.Common.{subst}
use Rattle.rinqebo_findings.specs.Warnings.{other_warnings, ReportWarnings}
use Rattle.rinqebo_findings.proofs.load_warnings.other_warning_findings.Goals as goal

pub returns : goal.returns
returns c =
    subst (λ ws. ReportWarnings c.args.layers.now (other_warnings ws) c.in_ok-other_findings.field-0.items) c.warnings.ensures c.in_ok-other_findings.ensures
