use Rattle.std.proofs.Common.{take}
use Rattle.filter_engine.specs.StateLists.{AddsAll}
use Rattle.filter_engine.proofs.machine.state_list.StateList.insert_all.Given as goal

abbrev pub invariant-loop-state : goal.invariant-loop-state
invariant-loop-state g l = AddsAll (take l.state-index l.states) l.initial.self l.self
