use Rattle.std.proofs.lemmas.List.{length-replicate}
use Rattle.filter_engine.proofs.StateLists.{none_listed}
use Rattle.filter_engine.proofs.machine.state_list.StateList.new.Goals as goal

pub invariant_of-result : goal.invariant_of-result
invariant_of-result g c = none_listed _ _ _ c.requires c.new.ensures.none c.new.ensures.len c.new.ensures.count
    (length-replicate g.row.ROOM 0)
