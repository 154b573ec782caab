use Rattle.std.proofs.Common.{length, ◌-◌}
use denote.Shadow.{shadow}
use denote.Text.{Utf8}
use Rattle.nextest_inheritance.specs.Parents.{parents_in}
use Rattle.nextest_inheritance.specs.View.{parents_view, borrowed_view, has_name}
use Rattle.nextest_inheritance.specs.Walks.{cycle_parents, IsWalk}
use Rattle.nextest_inheritance.proofs.cycles.walk_from.Given as goal

abbrev pub invariant-loop-parent : goal.invariant-loop-parent
invariant-loop-parent g l = record {
  walk : IsWalk (cycle_parents (parents_in (parents_view g.P.Inherits.parent l.profiles.entries))) l.start
      (has_name l.initial.walked) (has_name l.walked) (borrowed_view l.path.items) l.end;
  text : shadow (Utf8 l.end);
}

abbrev pub decreases-loop-parent : goal.decreases-loop-parent
decreases-loop-parent g l = length l.profiles.entries - length l.path.items
