use Rattle.std.proofs.Common.{arith, ap, sym, ◌∙◌}
use Rattle.filter_engine.specs.Tables.{reads_byte}
use Rattle.filter_engine.proofs.Reading.{within_at}
use Rattle.filter_engine.proofs.Rows.{nothing_more, nothing_at_first, nothing_at_all}
use Rattle.filter_engine.proofs.machine.search.Search.reads_some.Goals as goal

pub state-requires : goal.state-requires
state-requires g c =
    within_at c.args.self.now.nfa.now c.args.states.now c.loop-i.i _ c.requires (omega arith) c.get.ensures

pub loop-i-init : goal.loop-i-init
loop-i-init g c = nothing_at_first c.args.self.now.nfa.now c.args.states.now

pub loop-i-preserved : goal.loop-i-preserved
loop-i-preserved g c =
    nothing_more c.args.self.now.nfa.now c.args.states.now c.loop-i.i c.get.result c.loop-i.invariant (omega arith)
    c.get.ensures (sym (ap reads_byte c.state.ensures.is) ∙ (sym c.reads.ensures ∙ c.if-reads.false))

pub returns : goal.returns
returns g c = λ _. nothing_at_all c.args.self.now.nfa.now c.args.states.now c.loop-i.i c.loop-i.invariant (omega arith)
