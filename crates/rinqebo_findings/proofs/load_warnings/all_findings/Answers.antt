use Rattle.std.proofs.Common.{map, arith}
use Rattle.std.proofs.lemmas.List.{map-append}
use Rattle.nextest_sources.specs.WarningsView.{warning_view}
use Rattle.rinqebo_findings.proofs.Each.{taken}
use Rattle.rinqebo_findings.proofs.Warned.{reports_one, reports_all, reports_next}
use Rattle.rinqebo_findings.proofs.load_warnings.all_findings.Goals as goal

pub loop-warning-preserved : goal.loop-warning-preserved
loop-warning-preserved c =
    let l = c.loop-warning in
    reports_next c.args.layers.now (map warning_view) (map-append warning_view) c.args.warnings.now l.warning-index c.warning-item.result
    l.findings.items c.in_ok-more.more.items _
    (taken c.args.warnings.now l.warning-index c.warning-item.result c.loop-warning-test.true c.warning-item.is)
    c.in_ok-append.ensures.items l.invariant (reports_one c.args.layers.now _ _ c.in_ok-more.ensures)

pub returns : goal.returns
returns c =
    reports_all c.args.layers.now (map warning_view) c.args.warnings.now c.loop-warning.warning-index c.loop-warning.findings.items
    (omega arith) c.loop-warning.invariant
