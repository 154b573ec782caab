use Rattle.std.proofs.Common.{◌≡◌, fold, take}
use Rattle.serde_json.specs.Data.{no_members}
use Rattle.serde_json.specs.View.{members_view}
use Rattle.rinqebo_objects.specs.Origins.{with_group_origins}
use Rattle.rinqebo_objects.proofs.origins.group_origins_json.Given as goal

-- the members so far
abbrev pub invariant-loop-group : goal.invariant-loop-group
invariant-loop-group l =
    members_view l.members.entries ≡ fold with_group_origins no_members (take l.group-index l.groups)
