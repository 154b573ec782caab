use Rattle.filter_engine.proofs.Rows.{SeesEdgesTo}
use Rattle.filter_engine.proofs.machine.fill.sees_edges.Given as goal

abbrev pub invariant-loop-id : goal.invariant-loop-id
invariant-loop-id l = SeesEdgesTo l.nfa l.id
