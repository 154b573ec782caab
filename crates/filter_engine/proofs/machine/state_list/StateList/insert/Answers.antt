use Rattle.std.proofs.Common.{arith}
use Rattle.filter_engine.proofs.StateLists.{listed_more, adds_behind}
use Rattle.filter_engine.proofs.machine.state_list.StateList.insert.Goals as goal

pub invariant_of-self : goal.invariant_of-self
invariant_of-self g c = listed_more _ _ _ _ _ _ c.self.invariant c.requires c.insert.ensures.after
    (rw c.if-insert.true at c.insert.ensures.counted) c.insert.ensures.within

pub returns-then-insert : goal.returns-then-insert
returns-then-insert g c =
    let count = rw c.if-insert.true at c.insert.ensures.counted in
    adds_behind _ _ _ _ (omega arith) c.self.view_is
