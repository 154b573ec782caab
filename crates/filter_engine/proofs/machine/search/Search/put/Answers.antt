use Rattle.std.proofs.Common.{arith, rules}
use Rattle.filter_engine.proofs.Turns.{put_even, put_odd}
use Rattle.filter_engine.proofs.machine.search.Search.put.Goals as goal

pub insert_all-requires : goal.insert_all-requires
insert_all-requires g c = (search rules, λ q there. omega (arith, c.requires.states q there))

pub insert_all-requires-else-at-eq0 : goal.insert_all-requires-else-at-eq0
insert_all-requires-else-at-eq0 g c = (search rules, λ q there. omega (arith, c.requires.states q there))

pub returns-then-at-eq0-clause-states : goal.returns-then-at-eq0-clause-states
returns-then-at-eq0-clause-states g c =
    let same = put_even c.args.at c.args.states.now c.args.even.now c.insert_all.new.self c.args.odd.now (omega arith)
    c.requires.none c.insert_all.ensures in
    λ q there. c.requires.states q ((same q).0 there)

pub returns-then-at-eq0-clause-same : goal.returns-then-at-eq0-clause-same
returns-then-at-eq0-clause-same g c =
    put_even c.args.at c.args.states.now c.args.even.now c.insert_all.new.self c.args.odd.now (omega arith)
    c.requires.none c.insert_all.ensures

pub returns-else-at-eq0-clause-states : goal.returns-else-at-eq0-clause-states
returns-else-at-eq0-clause-states g c =
    let same = put_odd c.args.at c.args.states.now c.args.even.now c.args.odd.now c.insert_all-else-at-eq0.new.self
    (λ even. omega arith) c.requires.none c.insert_all-else-at-eq0.ensures in
    λ q there. c.requires.states q ((same q).0 there)

pub returns-else-at-eq0-clause-same : goal.returns-else-at-eq0-clause-same
returns-else-at-eq0-clause-same g c =
    put_odd c.args.at c.args.states.now c.args.even.now c.args.odd.now c.insert_all-else-at-eq0.new.self
    (λ even. omega arith) c.requires.none c.insert_all-else-at-eq0.ensures
