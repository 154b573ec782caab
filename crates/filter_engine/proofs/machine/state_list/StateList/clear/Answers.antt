use Rattle.filter_engine.proofs.StateLists.{cleared}
use Rattle.filter_engine.proofs.machine.state_list.StateList.clear.Goals as goal

pub invariant_of-self : goal.invariant_of-self
invariant_of-self g c = rw c.remove_all.ensures (cleared _ _ _ _ c.self.invariant)
