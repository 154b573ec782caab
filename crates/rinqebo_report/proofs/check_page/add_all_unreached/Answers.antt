use Rattle.rinqebo_report.proofs.WholeTexts.{written_more}
use Rattle.rinqebo_report.specs.Pages.{unreached_text}
use Rattle.rinqebo_report.proofs.check_page.add_all_unreached.Goals as goal

pub loop-unreached-preserved : goal.loop-unreached-preserved
loop-unreached-preserved c =
    written_more (unreached_text c.args.root.now c.args.sources.now) c.args.all.now
    c.loop-unreached.unreached-index c.unreached-item.result c.loop-unreached-test.true
    c.unreached-item.is _ _ _ c.loop-unreached.invariant c.in_ok-add_unreached.ensures
