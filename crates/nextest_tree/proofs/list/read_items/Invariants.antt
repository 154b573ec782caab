use Rattle.std.proofs.Common.{◌≡◌, List, ◌++◌, drop}
use Rattle.nextest_tree.specs.Reads.{walk_view, IsList}
use Rattle.nextest_tree.specs.ReadSteps.{reading_items}
use Rattle.nextest_tree.specs.View.{nodes_view}
use Rattle.nextest_tree.proofs.list.read_items.Given as goal

-- what is read, and what is left to read
abbrev pub invariant-loop-position : goal.invariant-loop-position
invariant-loop-position g l =
    ((rest : List g.row.T.Denot) → IsList g.T.Element.is_value (nodes_view (drop l.position l.items)) rest
    → IsList g.T.Element.is_value (nodes_view l.items) (l.values.items ++ rest))
    × (reading_items g.T.Element.schema l.position (nodes_view (drop l.position l.items)) (walk_view l.walk)
    ≡ reading_items g.T.Element.schema 0 (nodes_view l.items) (walk_view l.fn.walk))
