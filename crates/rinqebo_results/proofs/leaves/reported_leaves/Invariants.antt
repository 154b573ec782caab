use Rattle.std.proofs.Common.{map, take}
use Rattle.nextest_documents.specs.Entries.{leaf_view}
use Rattle.rinqebo_results.specs.ShownConfig.{TellLeaves}
use Rattle.rinqebo_results.proofs.leaves.reported_leaves.Given as goal

-- the leaves so far
abbrev pub invariant-loop-leaf : goal.invariant-loop-leaf
invariant-loop-leaf l = TellLeaves l.layers (map leaf_view (take l.leaf-index l.leaves)) l.entries.items
