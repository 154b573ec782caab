use Rattle.std.proofs.Common.{take}
use Rattle.filter_engine.specs.Tables.{ReadsNothing}
use Rattle.filter_engine.proofs.machine.search.Search.reads_some.Given as goal

abbrev pub invariant-loop-i : goal.invariant-loop-i
invariant-loop-i g l = ReadsNothing l.self.nfa.now (take l.i l.states)
