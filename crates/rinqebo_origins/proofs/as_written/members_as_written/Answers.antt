use Rattle.std.proofs.Common.{option_map}
use Rattle.std.proofs.lemmas.List.Elements.{All-push}
use Rattle.nextest_tree.specs.View.{tree_view}
use Rattle.rinqebo_origins.proofs.Moved.{one_moved}
use Rattle.rinqebo_origins.specs.AsWritten.{IsMemberAsWritten}
use Rattle.rinqebo_origins.specs.Reported.{field_view}
use Rattle.rinqebo_origins.proofs.as_written.members_as_written.Goals as goal

pub loop-member-preserved : goal.loop-member-preserved
loop-member-preserved c = record {
  same = one_moved field_view _ c.in_ok-member_as_written.field-0 c.in-Some.member _ _ _ _ c.loop-member.invariant.same
      c.in-Some.ensures.steps.0 c.in_ok-push.ensures.items c.in_ok-member_as_written.ensures.same;
  written = rw c.in_ok-push.ensures.items
      (All-push (IsMemberAsWritten (option_map (λ tree. tree_view tree.now) c.args.node)) _ _
      c.loop-member.invariant.written c.in_ok-member_as_written.ensures.written);
}
