use Rattle.std.proofs.Common.{length, ap, arith}
use Rattle.filter_engine.proofs.StateLists.{listed_len}
use Rattle.filter_engine.proofs.machine.state_list.StateList.get.Goals as goal

pub offset_bounds-states-index : goal.offset_bounds-states-index
offset_bounds-states-index g c = omega (arith, listed_len _ _ _ _ c.self.invariant, ap length c.self.view_is)

pub bounds-states-index : goal.bounds-states-index
bounds-states-index g c = omega (arith, listed_len _ _ _ _ c.self.invariant, ap length c.self.view_is)
