use Rattle.std.proofs.Common.{◌<◌, vec_len}
use Rattle.filter_engine.specs.Runs.{IsSearched}
use Rattle.filter_engine.specs.Tables.{IsAt, row_states}
use Rattle.filter_engine.proofs.machine.Machine.follow.Given as goal

abbrev pub invariant-loop-at : goal.invariant-loop-at
invariant-loop-at l = record {
  row : l.row < vec_len l.table.rows;
  here : IsAt l.row l.name l.at;
  searched : ∥ IsSearched l.self.nfa l.name l.at (row_states l.table l.row) ∥₁;
}
