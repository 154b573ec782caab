use Rattle.std.proofs.Common.{List, map, arith}
use Rattle.nextest_sources.specs.WarningsView.{warning_view}
use Rattle.nextest_sources.specs.declared.warnings.ConfigWarning.{ConfigWarning}
use Rattle.rinqebo_findings.specs.Warnings.{other_warnings}
use Rattle.rinqebo_findings.proofs.Each.{taken}
use Rattle.rinqebo_findings.proofs.Warned.{others_split, reports_all, reports_next}
use Rattle.rinqebo_findings.proofs.load_warnings.other_findings.Goals as goal

pub loop-warning-preserved : goal.loop-warning-preserved
loop-warning-preserved c =
    let l = c.loop-warning in
    reports_next c.args.layers.now (λ (ws : List ConfigWarning). other_warnings (map warning_view ws)) others_split c.args.warnings.now l.warning-index c.warning-item.result
    l.findings.items c.in_ok-more.more.items _
    (taken c.args.warnings.now l.warning-index c.warning-item.result c.loop-warning-test.true c.warning-item.is)
    c.in_ok-append.ensures.items l.invariant c.in_ok-more.ensures

pub returns : goal.returns
returns c =
    reports_all c.args.layers.now (λ (ws : List ConfigWarning). other_warnings (map warning_view ws)) c.args.warnings.now c.loop-warning.warning-index c.loop-warning.findings.items
    (omega arith) c.loop-warning.invariant
