use Rattle.filter_inputs.specs.Lists.ListView.{listed_view}
use Rattle.rinqebo_diff.specs.Differences.{IsCountOf}
use Rattle.rinqebo_changes.proofs.Zips.{zip_more}
use Rattle.rinqebo_diff.proofs.sides.counts_of.Goals as goal

pub loop-binary-preserved : goal.loop-binary-preserved
loop-binary-preserved c =
    zip_more listed_view IsCountOf c.args.binaries.now c.loop-binary.binary-index c.binary-item.result
    c.binary-item.result c.loop-binary-test.true c.binary-item.is c.loop-binary.counts.items c.in_ok-count_of.field-0 _
    c.loop-binary.invariant c.in_ok-count_of.ensures c.in_ok-push.ensures.items
