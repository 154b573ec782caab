use Rattle.filter_engine.proofs.machine.table.Table.row_of.Given as goal

abbrev pub invariant-loop-row : goal.invariant-loop-row
invariant-loop-row l = Unit {0}
