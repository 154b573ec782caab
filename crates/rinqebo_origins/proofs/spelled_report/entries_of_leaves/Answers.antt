use Rattle.std.proofs.Common.{◌∙◌, ap, filter, map, subst}
use Rattle.std.proofs.lemmas.List.{take_all}
use Rattle.std.specs.List.{AllZip}
use Rattle.nextest_documents.specs.Layers.{keys_view}
use Rattle.rinqebo_origins.specs.SpelledLeaves.{IsEntryOfLeaf, is_spelled_out, spelled_view}
use Rattle.rinqebo_origins.proofs.SpelledEntries.{passes_more, passes_not}
use Rattle.rinqebo_origins.proofs.spelled_report.entries_of_leaves.Goals as goal
use Rattle.rinqebo_origins.proofs.spelled_report.entries_of_leaves.Goals.{in-Some+in_ok-push-in-Some, in-None}

pub loop-leaf-preserved : goal.loop-leaf-preserved
loop-leaf-preserved c =
    let n = c.loop-leaf.leaf-index in
    let p = is_spelled_out (keys_view c.args.keys.now) in
    let R = IsEntryOfLeaf c.args.layers.now in
    elim c.match-branch-2.branch [
      | in-Some+in_ok-push-in-Some w ↦
          let told = rw w.in-Some.is at c.in_ok-entry.ensures in
          passes_more spelled_view p R c.args.leaves.now n c.leaf-item.result c.loop-leaf-test.true c.leaf-item.is
          c.loop-leaf.entries.items c.match-branch-2.entries.items w.in-Some.entry c.loop-leaf.invariant
          told.0 told.1 (ap (λ v. v.items) w.entries-is ∙ w.in_ok-push-in-Some.ensures.items)
      | in-None w ↦ passes_not spelled_view p R c.args.leaves.now n c.leaf-item.result c.loop-leaf-test.true
          c.leaf-item.is c.loop-leaf.entries.items c.match-branch-2.entries.items c.loop-leaf.invariant
          (rw w.in-None.is at c.in_ok-entry.ensures) (ap (λ v. v.items) w.entries-is)
    ]

pub returns : goal.returns
returns c =
    subst (λ leaves. AllZip (IsEntryOfLeaf c.args.layers.now)
    (filter (is_spelled_out (keys_view c.args.keys.now)) (map spelled_view leaves)) c.loop-leaf.entries.items)
    (take_all c.loop-leaf.leaf-index c.args.leaves.now c.loop-leaf-test.false) c.loop-leaf.invariant
