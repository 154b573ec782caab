use Rattle.std.proofs.Common.{◌≡◌, ◌∙◌, true, sym}
use Rattle.nextest_sources.specs.WarningsView.{warning_view}
use Rattle.rinqebo_findings.specs.Warnings.{is_other}
use Rattle.rinqebo_findings.proofs.Warned.{reports_other}
use Rattle.rinqebo_findings.proofs.load_warnings.other_findings_of.Goals as goal

pub returns : goal.returns
returns c =
    let is : is_other (warning_view c.args.warning.now) ≡ true = sym c.is_other.ensures ∙ c.if-not-is_other.false in
    reports_other c.args.layers.now (warning_view c.args.warning.now) _ is c.in_ok-findings_of.ensures
