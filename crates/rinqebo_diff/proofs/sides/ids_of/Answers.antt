use Rattle.std.proofs.Common.{refl}
use Rattle.filter_inputs.specs.Lists.ListView.{list_test_view}
use Rattle.rinqebo_diff.specs.Differences.{IsIdOf}
use Rattle.rinqebo_changes.proofs.Zips.{zip_more}
use Rattle.rinqebo_diff.proofs.sides.ids_of.Goals as goal

pub loop-test-preserved : goal.loop-test-preserved
loop-test-preserved c =
    zip_more list_test_view IsIdOf c.args.tests.now c.loop-test.test-index _ _ c.loop-test-test.true refl
    c.loop-test.ids.items c.in_ok-id_of.field-0 _ c.loop-test.invariant c.in_ok-id_of.ensures
    c.in_ok-push.ensures.items
