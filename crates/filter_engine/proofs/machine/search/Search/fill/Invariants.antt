use Rattle.filter_engine.specs.Tables.{Grows, IsTableOf}
use Rattle.filter_engine.proofs.machine.search.Search.fill.Given as goal

abbrev pub invariant-loop-class : goal.invariant-loop-class
invariant-loop-class g l = record {
  table : IsTableOf l.self.nfa.now l.table;
  grows : Grows l.initial.table l.table;
}
