use Rattle.std.proofs.Common.{arith, rules}
use Rattle.std.proofs.lemmas.List.Elements.{Contains-get_or}
use Rattle.filter_engine.proofs.Targets.{adds_more, adds_none, adds_done}
use Rattle.filter_engine.proofs.machine.state_list.StateList.insert_all.Goals as goal

pub insert-requires : goal.insert-requires
insert-requires g c =
    let there = Contains-get_or c.args.states.now c.loop-state.state-index 0 c.loop-state-test.true in
    (search rules, rw c.from.ensures (c.requires _ there))

pub loop-state-init : goal.loop-state-init
loop-state-init g c = adds_none c.args.states.now c.args.self.now

pub loop-state-preserved : goal.loop-state-preserved
loop-state-preserved g c =
    adds_more c.args.states.now c.args.self.now c.loop-state.self c.insert.new.self c.loop-state.state-index
    c.from.result c.loop-state-test.true c.from.ensures c.loop-state.invariant c.insert.ensures

pub returns : goal.returns
returns g c =
    adds_done c.args.states.now c.args.self.now c.loop-state.self c.loop-state.state-index c.loop-state.invariant
    (omega arith)
