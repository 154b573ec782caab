use Rattle.std.proofs.Common.{arith, rules, sym, ◌∙◌, true≢false}
use Rattle.filter_engine.proofs.Closing.{none_followed, followed_more, within_more, matches_here, closed_when_done}
use Rattle.filter_engine.proofs.Reading.{within_at}
use Rattle.filter_engine.proofs.machine.search.Search.close.Goals as goal

pub follow-requires : goal.follow-requires
follow-requires g c =
    let within = within_at c.args.self.now.nfa.now c.loop-done.states c.loop-done.done _ c.loop-done.invariant.within
    (omega arith) c.get-id.ensures in
    (search rules, (search rules, within))

pub loop-done-init : goal.loop-done-init
loop-done-init g c = none_followed _ _ _ _ c.requires.states

pub loop-done-preserved : goal.loop-done-preserved
loop-done-preserved g c =
    followed_more _ _ _ _ _ _ _ _ c.loop-done.invariant (omega arith) c.get-id.ensures
    (λ ends. true≢false (sym (c.follow.ensures.ends.1 ends) ∙ c.if-follow.false)) c.follow.ensures.targets

pub returns-then-follow-clause-states : goal.returns-then-follow-clause-states
returns-then-follow-clause-states g c = within_more _ _ _ _ _ _ c.loop-done.invariant.within c.follow.ensures.targets

pub returns-then-follow-clause-closes : goal.returns-then-follow-clause-closes
returns-then-follow-clause-closes g c =
    matches_here _ _ _ _ _ _ _ c.loop-done.invariant (omega arith) c.get-id.ensures
    (c.follow.ensures.ends.0 c.if-follow.true)

pub returns-clause-closes : goal.returns-clause-closes
returns-clause-closes g c = closed_when_done _ _ _ _ _ _ c.loop-done.invariant (omega arith)
