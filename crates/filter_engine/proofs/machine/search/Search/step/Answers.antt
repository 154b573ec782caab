use Rattle.std.proofs.Common.{arith, rules}
use Rattle.filter_engine.proofs.Reading.{none_within, reads_within}
use Rattle.filter_engine.proofs.Steps.{start_added, within_started, steps_matched, steps_over, steps_at_end}
use Rattle.filter_engine.proofs.machine.search.Search.step.Goals as goal

pub close-requires : goal.close-requires
close-requires g c =
    let starts = start_added c.args.self.now.nfa.now _ _ c.insert.ensures in
    let states = within_started c.args.self.now.nfa.now c.args.name.now _ _ c.requires.states starts in
    (search rules, (search rules, (c.requires.at, states)))

pub returns-then-close-clause-states : goal.returns-then-close-clause-states
returns-then-close-clause-states g c = none_within c.args.self.now.nfa.now _ c.clear.ensures

pub returns-then-close-clause-step : goal.returns-then-close-clause-step
returns-then-close-clause-step g c =
    steps_matched _ _ _ _ _ c.requires.at (start_added c.args.self.now.nfa.now _ _ c.insert.ensures)
    (rw c.if-close.true at c.close.ensures.closes)

pub returns-then-at-name-clause-states : goal.returns-then-at-name-clause-states
returns-then-at-name-clause-states g c = none_within c.args.self.now.nfa.now _ c.clear.ensures

pub returns-then-at-name-clause-step : goal.returns-then-at-name-clause-step
returns-then-at-name-clause-step g c =
    rw c.clear.ensures
    (steps_at_end _ _ _ _ c.insert.new.self c.close.new.states (omega arith)
    (start_added c.args.self.now.nfa.now _ _ c.insert.ensures)
    (rw c.if-close.false at c.close.ensures.closes))

pub returns-clause-states : goal.returns-clause-states
returns-clause-states g c =
    reads_within _ _ _ _ _ c.advance.ensures (none_within c.args.self.now.nfa.now _ c.clear.ensures)

pub returns-clause-step : goal.returns-clause-step
returns-clause-step g c =
    steps_over _ _ _ _ c.insert.new.self c.close.new.states _ (omega arith)
    (start_added c.args.self.now.nfa.now _ _ c.insert.ensures)
    (rw c.if-close.false at c.close.ensures.closes) (rw c.clear.ensures at c.advance.ensures)
