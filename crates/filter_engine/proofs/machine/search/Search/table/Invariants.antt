use Rattle.std.proofs.Common.{◌≡◌, ◌+◌, length}
use Rattle.filter_engine.specs.Classes.{AreClasses}
use Rattle.filter_engine.specs.Tables.{IsTableOf}
use Rattle.filter_engine.proofs.machine.search.Search.table.Given as goal

abbrev pub invariant-loop-row : goal.invariant-loop-row
invariant-loop-row g l = record {
  table : IsTableOf l.self.nfa.now l.table;
  classes : AreClasses l.self.nfa.now l.table.classes l.bytes;
  width : l.table.width ≡ length l.bytes + 1;
}
