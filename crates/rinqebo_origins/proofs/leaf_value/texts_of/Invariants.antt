use Rattle.std.proofs.Common.{◌≡◌, map, take}
use Rattle.nextest_tree.specs.View.{tree_view}
use Rattle.rinqebo_origins.specs.LeafValue.{text_node}
use Rattle.rinqebo_origins.proofs.leaf_value.texts_of.Given as goal

-- the texts so far
abbrev pub invariant-loop-item : goal.invariant-loop-item
invariant-loop-item l = map text_node l.texts.items ≡ map tree_view (take l.item-index l.items)
