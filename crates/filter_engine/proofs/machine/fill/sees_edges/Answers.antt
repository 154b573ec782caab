use Rattle.std.proofs.Common.{arith}
use Rattle.filter_engine.proofs.Rows.{edges_more, edges_all}
use Rattle.filter_engine.proofs.machine.fill.sees_edges.Goals as goal

pub loop-id-preserved : goal.loop-id-preserved
loop-id-preserved c =
    edges_more c.args.nfa.now c.loop-id.id c.state.result c.loop-id.invariant c.state.ensures.is
    (c.sees_edge.ensures c.if-not-sees_edge.false)

pub returns : goal.returns
returns c =
    λ _. edges_all c.args.nfa.now c.loop-id.id c.loop-id.invariant (omega (arith, c.args.nfa.now.states.ok.0))
