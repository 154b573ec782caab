use Rattle.std.proofs.Common.{◌++◌, List}
use Rattle.std.specs.List.{AllZip}
use Rattle.nextest_load.specs.ConfigView.{groups_view}
use Rattle.rinqebo_objects.specs.declared.origins.GroupOrigins.{GroupOrigins}
use Rattle.rinqebo_object_origins.specs.ObjectOrigins.{AreGroupOrigins}
use Rattle.rinqebo_object_origins.proofs.objects.all_group_origins.Given as goal

-- the origins so far, with those of the groups that are left
abbrev pub invariant-loop-group : goal.invariant-loop-group
invariant-loop-group l =
    (more : List GroupOrigins) → AllZip (λ group. AreGroupOrigins l.layers group.0) (groups_view l.group-iterator) more
    → AllZip (λ group. AreGroupOrigins l.layers group.0) (groups_view l.groups.entries) (l.told.items ++ more)
