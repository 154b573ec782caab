use Rattle.std.proofs.Common.{arith, rules}
use Rattle.filter_engine.proofs.Turns.{states_even, states_odd, states_after_even, states_after_odd, step_even, step_odd}
use Rattle.filter_engine.proofs.machine.search.Search.turn.Goals as goal

pub step-requires : goal.step-requires
step-requires g c =
    let states = states_even c.args.self.now.nfa.now c.args.at c.args.even.now c.args.odd.now (omega arith)
    c.requires.states in
    (search rules, (search rules, (c.requires.at, states)))

pub step-requires-else-at-eq0 : goal.step-requires-else-at-eq0
step-requires-else-at-eq0 g c =
    let states = states_odd c.args.self.now.nfa.now c.args.at c.args.even.now c.args.odd.now (λ even. omega arith)
    c.requires.states in
    (search rules, (search rules, (c.requires.at, states)))

pub returns-then-at-eq0-clause-states : goal.returns-then-at-eq0-clause-states
returns-then-at-eq0-clause-states g c =
    states_after_even c.args.self.now.nfa.now c.args.at c.step.new.states _ (omega arith) c.step.ensures.states

pub returns-then-at-eq0-clause-step : goal.returns-then-at-eq0-clause-step
returns-then-at-eq0-clause-step g c =
    step_even _ _ c.args.at _ c.args.odd.now c.step.new.states _ _ (omega arith) c.step.ensures.step

pub returns-else-at-eq0-clause-states : goal.returns-else-at-eq0-clause-states
returns-else-at-eq0-clause-states g c =
    states_after_odd c.args.self.now.nfa.now c.args.at _ c.step-else-at-eq0.new.states (λ even. omega arith)
    c.step-else-at-eq0.ensures.states

pub returns-else-at-eq0-clause-step : goal.returns-else-at-eq0-clause-step
returns-else-at-eq0-clause-step g c =
    step_odd _ _ c.args.at c.args.even.now _ _ c.step-else-at-eq0.new.states _ (λ even. omega arith)
    c.step-else-at-eq0.ensures.step
