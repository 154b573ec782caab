use Rattle.std.proofs.Common.{◌≡◌, ◌++◌, map}
use Rattle.nextest_load.specs.ConfigView.{groups_view}
use Rattle.serde_json.specs.View.{view}
use Rattle.rinqebo_objects.specs.Scripts.{group_data}
use Rattle.rinqebo_objects.proofs.groups.groups_json.Given as goal

-- the groups so far, with those that are left
abbrev pub invariant-loop-group : goal.invariant-loop-group
invariant-loop-group l =
    map view l.list.items ++ map group_data (groups_view l.group-iterator)
    ≡ map group_data (groups_view l.groups.entries)
