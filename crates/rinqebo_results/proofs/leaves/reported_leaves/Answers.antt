use Rattle.std.proofs.Common.{◌+◌, ◌∙◌, ap, refl}
use Rattle.rinqebo_results.proofs.Showing.{reported_less, reported_more}
use Rattle.rinqebo_results.proofs.leaves.reported_leaves.Goals as goal
use Rattle.rinqebo_results.proofs.leaves.reported_leaves.Goals.{in-Some+in_ok-push-in-Some, in-None}

pub loop-leaf-preserved : goal.loop-leaf-preserved
loop-leaf-preserved c =
    let n = c.loop-leaf.leaf-index in
    elim c.match-branch-2.branch [
      | in-Some+in_ok-push-in-Some w ↦ reported_more c.args.layers.now c.args.leaves.now n (n + 1) c.leaf-item.result c.loop-leaf.entries.items
          c.match-branch-2.entries.items w.in-Some.entry c.loop-leaf-test.true c.leaf-item.is refl c.loop-leaf.invariant
          (rw w.in-Some.is at c.in_ok-entry.ensures) (ap (λ v. v.items) w.entries-is ∙ w.in_ok-push-in-Some.ensures.items)
      | in-None w ↦ reported_less c.args.layers.now c.args.leaves.now n (n + 1) c.leaf-item.result c.loop-leaf.entries.items
          c.match-branch-2.entries.items c.loop-leaf-test.true c.leaf-item.is refl c.loop-leaf.invariant
          (rw w.in-None.is at c.in_ok-entry.ensures) (ap (λ v. v.items) w.entries-is)
    ]
