use Rattle.std.proofs.Common.{[], arith, rules, sym}
use Rattle.filter_engine.proofs.Searches.{begun, searched_within, searched_then, found_then, nothing_then}
use Rattle.filter_engine.proofs.Turns.{empty_in_turn}
use Rattle.filter_engine.proofs.machine.search.Search.has_match.Goals as goal

pub put-requires : goal.put-requires
put-requires g c =
    let within = searched_within c.args.self.now.nfa.now c.args.name.now c.args.from c.args.states.now c.requires.searched in
    (search rules, (search rules, (within, empty_in_turn _ _ _ c.new-even.ensures c.new-odd.ensures)))

pub turn-requires : goal.turn-requires
turn-requires g c =
    let within = searched_within c.args.self.now.nfa.now c.args.name.now c.loop-at.at _ c.loop-at.invariant in
    (search rules, (search rules, (omega arith, within)))

pub loop-at-init : goal.loop-at-init
loop-at-init g c = begun _ _ _ _ _ c.put.ensures.same c.requires.searched

pub loop-at-preserved : goal.loop-at-preserved
loop-at-preserved g c =
    searched_then _ _ _ _ _ c.loop-at.invariant c.turn.ensures.states (rw c.if-turn.false at c.turn.ensures.step)

pub returns-then-turn : goal.returns-then-turn
returns-then-turn g c = sym (found_then _ _ _ _ [] c.loop-at.invariant (rw c.if-turn.true at c.turn.ensures.step))

pub returns : goal.returns
returns g c = sym (nothing_then _ _ _ _ (omega arith) c.loop-at.invariant)
