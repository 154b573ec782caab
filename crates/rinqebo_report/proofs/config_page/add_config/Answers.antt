use Rattle.rinqebo_report.proofs.Pages.{page_more}
use Rattle.rinqebo_report.specs.Pages.{entry_runs}
use Rattle.rinqebo_report.proofs.config_page.add_config.Goals as goal

pub loop-entry-preserved : goal.loop-entry-preserved
loop-entry-preserved c =
    page_more c.args.paper.colour
    (entry_runs c.args.paper.columns c.args.root.now c.args.sources.now c.entry_column-keys.result)
    c.args.entries.now c.loop-entry.entry-index c.entry-item.result c.loop-entry-test.true c.entry-item.is
    _ _ _ c.loop-entry.invariant c.in_ok-add_entry.ensures
