use Rattle.std.proofs.Common.{take}
use Rattle.filter_engine.specs.Runs.{Reads}
use Rattle.filter_engine.proofs.machine.search.Search.advance.Given as goal

abbrev pub invariant-loop-i : goal.invariant-loop-i
invariant-loop-i g l = Reads l.self.nfa.now l.byte (take l.i l.states) l.initial.next l.next
