use Rattle.std.proofs.Common.{[], arith, rules}
use Rattle.filter_engine.proofs.Steps.{start_with, within_started}
use Rattle.filter_engine.proofs.machine.search.Search.start.Goals as goal

pub insert_all-requires : goal.insert_all-requires
insert_all-requires g c = (search rules, λ q there. omega (arith, c.requires.states q there))

pub returns-clause-starts : goal.returns-clause-starts
returns-clause-starts g c =
    start_with c.args.self.now.nfa.now c.args.states.now c.args.list.now c.insert_all.new.self c.insert.new.self
    c.requires.none c.insert_all.ensures c.insert.ensures

pub returns-clause-states : goal.returns-clause-states
returns-clause-states g c =
    within_started c.args.self.now.nfa.now [] c.args.states.now c.insert.new.self c.requires.states
    (start_with c.args.self.now.nfa.now c.args.states.now c.args.list.now c.insert_all.new.self c.insert.new.self
    c.requires.none c.insert_all.ensures c.insert.ensures)
