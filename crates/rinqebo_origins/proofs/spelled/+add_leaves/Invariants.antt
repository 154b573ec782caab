use Rattle.std.proofs.Common.{◌≡◌, List, ◌++◌, map, take}
use Rattle.nextest_tree.specs.View.{entries_view, nodes_view}
use Rattle.rinqebo_origins.specs.Origins.{step_view}
use Rattle.rinqebo_origins.specs.SpelledLeaves.{item_leaves, member_leaves, spelled_view, spot_view}
use Rattle.rinqebo_origins.proofs.SpelledLeaves.{Member}
use Rattle.rinqebo_origins.proofs.spelled.+add_leaves.Given as goal

-- the leaves of the members so far
abbrev pub invariant-add_members-loop-key : goal.invariant-add_members-loop-key
invariant-add_members-loop-key l =
    (done : List Member) × (l.members.entries ≡ done ++ l.key-iterator)
    × (map spelled_view l.leaves.items ≡ map spelled_view l.initial.leaves.items
    ++ member_leaves (spot_view l.spot) (map step_view l.steps) (entries_view done))

-- the leaves of the items so far
abbrev pub invariant-add_items-loop-position : goal.invariant-add_items-loop-position
invariant-add_items-loop-position l =
    map spelled_view l.leaves.items ≡ map spelled_view l.initial.leaves.items
    ++ item_leaves (spot_view l.spot) (map step_view l.steps) 0 (nodes_view (take l.position l.items))
