use Rattle.filter_engine.proofs.Classes.{AreClassesTo}
use Rattle.filter_engine.proofs.machine.classes.Classes.new.Given as goal

abbrev pub invariant-loop-byte : goal.invariant-loop-byte
invariant-loop-byte l = AreClassesTo l.nfa l.of l.bytes.items l.byte
