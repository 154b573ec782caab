use Rattle.rinqebo_report.proofs.Pages.{rules_more}
use Rattle.rinqebo_report.proofs.why_page.add_rules.Goals as goal

pub loop-place-preserved : goal.loop-place-preserved
loop-place-preserved c =
    rules_more c.args.paper.colour c.args.paper.columns c.args.root.now c.args.sources.now c.args.key.now c.args.rules.now
    c.loop-place.place c.index-rules-place.result c.loop-place-test.true c.index-rules-place.is _ _ _
    c.loop-place.invariant c.in_ok-add_rule.ensures
