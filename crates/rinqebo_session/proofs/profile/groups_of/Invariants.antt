use Rattle.std.proofs.Common.{◌≡◌, ◌++◌, map}
use Rattle.nextest_load.specs.ConfigView.{groups_view}
use Rattle.rinqebo_session.specs.Opening.{group_entry}
use Rattle.rinqebo_session.proofs.profile.groups_of.Given as goal

-- the groups so far, with those that are left
abbrev pub invariant-loop-group : goal.invariant-loop-group
invariant-loop-group l =
    map group_entry l.groups.items ++ groups_view l.group-iterator ≡ groups_view l.table.entries
