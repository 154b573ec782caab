use Rattle.std.proofs.Common.{filter, map, take}
use Rattle.std.specs.List.{AllZip}
use Rattle.nextest_documents.specs.Layers.{keys_view}
use Rattle.rinqebo_origins.specs.SpelledLeaves.{IsEntryOfLeaf, is_spelled_out, spelled_view}
use Rattle.rinqebo_origins.proofs.spelled_report.entries_of_leaves.Given as goal

-- the entries of the leaves so far
abbrev pub invariant-loop-leaf : goal.invariant-loop-leaf
invariant-loop-leaf l =
    AllZip (IsEntryOfLeaf l.layers)
    (filter (is_spelled_out (keys_view l.keys)) (map spelled_view (take l.leaf-index l.leaves))) l.entries.items
