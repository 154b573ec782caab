use Rattle.std.proofs.Common.{◌≡◌, drop}
use Rattle.nextest_tree.specs.View.{nodes_view}
use Rattle.rinqebo_origins.specs.LeafValue.{are_texts}
use Rattle.rinqebo_origins.proofs.spelled.are_texts.Given as goal

-- the items so far are texts
abbrev pub invariant-loop-item : goal.invariant-loop-item
invariant-loop-item l =
    are_texts (nodes_view (drop l.item-index l.items)) ≡ are_texts (nodes_view l.items)
