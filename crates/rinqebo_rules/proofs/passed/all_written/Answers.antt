use Rattle.std.proofs.Common.{subst}
use Rattle.std.proofs.lemmas.List.{take_all}
use Rattle.std.specs.List.{AllZip}
use Rattle.nextest_settings.specs.View.{meant_override}
use Rattle.rinqebo_rules.proofs.ListedTests.{zip_mapped}
use Rattle.rinqebo_origins.proofs.RowsMore.{zip_more}
use Rattle.rinqebo_rules.specs.Passed.{AreWritten}
use Rattle.rinqebo_rules.proofs.passed.all_written.Goals as goal

pub loop-rule-preserved : goal.loop-rule-preserved
loop-rule-preserved g c =
    zip_more (λ rule written. AreWritten c.args.mode (meant_override g.F.Filters.meaning rule) written) c.args.rules.now
    c.loop-rule.rule-index _ _ c.loop-rule-test.true c.rule-item.is _ _ _ c.loop-rule.invariant
    c.in_ok-written_by.ensures c.in_ok-push.ensures.items

pub returns : goal.returns
returns g c =
    let meant = meant_override g.F.Filters.meaning in
    zip_mapped meant (AreWritten c.args.mode) c.args.rules.now c.loop-rule.written.items
    (subst (λ rules. AllZip (λ rule written. AreWritten c.args.mode (meant rule) written) rules c.loop-rule.written.items)
    (take_all c.loop-rule.rule-index c.args.rules.now c.loop-rule-test.false) c.loop-rule.invariant)
