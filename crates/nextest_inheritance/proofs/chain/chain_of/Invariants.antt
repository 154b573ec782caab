use Rattle.std.proofs.Common.{length, ◌-◌}
use Rattle.std.specs.Map.{keys_of}
use denote.Shadow.{shadow}
use denote.Text.{Utf8}
use Rattle.nextest_inheritance.specs.Parents.{parents_in}
use Rattle.nextest_inheritance.specs.View.{parents_view, borrowed_view}
use Rattle.nextest_inheritance.proofs.Following.{IsFollowed}
use Rattle.nextest_inheritance.proofs.chain.chain_of.Given as goal

abbrev pub invariant-loop-next : goal.invariant-loop-next
invariant-loop-next g l =
    let written = parents_view g.P.Inherits.parent l.profiles.entries in record {
      followed : IsFollowed (parents_in written) (keys_of written) l.name (borrowed_view l.chain.items) l.next;
      text : shadow (Utf8 l.next);
    }

abbrev pub decreases-loop-next : goal.decreases-loop-next
decreases-loop-next g l = length l.profiles.entries - length l.chain.items
