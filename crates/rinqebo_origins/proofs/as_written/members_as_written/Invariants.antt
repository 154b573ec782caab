use Rattle.std.proofs.Common.{◌≡◌, ◌++◌, All, map, option_map}
use Rattle.nextest_tree.specs.View.{tree_view}
use Rattle.rinqebo_origins.specs.AsWritten.{IsMemberAsWritten}
use Rattle.rinqebo_origins.specs.Reported.{field_view}
use Rattle.rinqebo_origins.proofs.as_written.members_as_written.Given as goal

-- the members so far, and those that are left
abbrev pub invariant-loop-member : goal.invariant-loop-member
invariant-loop-member l = record {
  same : map field_view l.told.items ++ map field_view l.member-iterator.rest.items ≡ map field_view l.fn.members.items;
  written : All (IsMemberAsWritten (option_map (λ tree. tree_view tree.now) l.node)) l.told.items;
}
