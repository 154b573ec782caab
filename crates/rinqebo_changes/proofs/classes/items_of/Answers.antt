use Rattle.std.proofs.Common.{◌≤◌, length, subst}
use Rattle.rinqebo_changes.proofs.ClassLists.{items_more}
use Rattle.rinqebo_changes.proofs.classes.items_of.Goals as goal

pub loop-test-preserved : goal.loop-test-preserved
loop-test-preserved c =
    let test = c.test-item.result in
    items_more c.args.tests.now c.loop-test.test-index test c.loop-test-test.true c.test-item.is c.loop-row.row-index
    (subst (λ rows. length rows ≤ c.loop-row.row-index) c.deref-row-items.ensures.value c.loop-row-test.false) _ _
    c.loop-test.invariant c.loop-row.invariant
