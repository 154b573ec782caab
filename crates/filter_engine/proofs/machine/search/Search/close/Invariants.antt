use Rattle.std.proofs.Common.{◌-◌}
use Rattle.filter_engine.proofs.Closing.{IsFollowedTo}
use Rattle.filter_engine.proofs.machine.search.Search.close.Given as goal

abbrev pub invariant-loop-done : goal.invariant-loop-done
invariant-loop-done g l = IsFollowedTo l.self.nfa.now l.name l.at l.initial.states l.states l.done

abbrev pub decreases-loop-done : goal.decreases-loop-done
decreases-loop-done g l = g.row.ROOM - l.done
