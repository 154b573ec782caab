use Rattle.std.proofs.Common.{◌≡◌, List, ◌++◌, map, String, Global}
use Rattle.toml.specs.View.{view, members_view}
use Rattle.toml.specs.declared.value.Value.{Value}
use Rattle.nextest_tree.specs.Node.{NodesAreSorted}
use Rattle.nextest_tree.specs.Value.{from_data, from_members}
use Rattle.nextest_tree.specs.View.{tree_view, nodes_of, entries_view}
use Rattle.nextest_tree.proofs.Built.{ValuesAreSorted}
use Rattle.nextest_tree.proofs.taken.+take_tree.Given as goal

-- the trees of the items so far, and the items that are left
abbrev pub invariant-take_items-loop-item : goal.invariant-take_items-loop-item
invariant-take_items-loop-item l =
    (map tree_view l.trees.items ++ map (λ v. from_data (view v)) l.item-iterator.rest.items
    ≡ map (λ v. from_data (view v)) l.fn.items.items)
    × NodesAreSorted (nodes_of (map tree_view l.trees.items))

-- the trees of the members so far
abbrev pub invariant-take_members-loop-key : goal.invariant-take_members-loop-key
invariant-take_members-loop-key l =
    ((done : List (String Global × Value)) × (l.fn.members.entries ≡ done ++ l.key-iterator)
    × (entries_view l.trees.entries ≡ from_members (members_view done)))
    × ValuesAreSorted (entries_view l.trees.entries)
