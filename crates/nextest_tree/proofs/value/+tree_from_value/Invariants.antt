use Rattle.std.proofs.Common.{◌≡◌, List, ◌++◌, take, map, String, Global}
use Rattle.toml.specs.View.{view, members_view}
use Rattle.toml.specs.declared.value.Value.{Value}
use Rattle.nextest_tree.specs.Node.{NodesAreSorted}
use Rattle.nextest_tree.specs.Value.{from_data, from_members}
use Rattle.nextest_tree.specs.View.{tree_view, nodes_of, entries_view}
use Rattle.nextest_tree.proofs.Built.{ValuesAreSorted}
use Rattle.nextest_tree.proofs.value.+tree_from_value.Given as goal

abbrev pub invariant-trees_of-loop-item : goal.invariant-trees_of-loop-item
invariant-trees_of-loop-item l =
    (map tree_view l.trees.items ≡ map (λ v. from_data (view v)) (take l.item-index l.item-items))
    × NodesAreSorted (nodes_of (map tree_view l.trees.items))

-- the trees of the members so far
abbrev pub invariant-table_of-loop-key : goal.invariant-table_of-loop-key
invariant-table_of-loop-key l =
    ((done : List (String Global × Value)) × (l.members.entries ≡ done ++ l.key-iterator)
    × (entries_view l.trees.entries ≡ from_members (members_view done)))
    × ValuesAreSorted (entries_view l.trees.entries)
