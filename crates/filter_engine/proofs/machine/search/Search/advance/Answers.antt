use Rattle.std.proofs.Common.{arith, rules}
use Rattle.filter_engine.proofs.Reading.{reads_none, reads_more, reads_all, within_at}
use Rattle.filter_engine.proofs.machine.search.Search.advance.Goals as goal

pub read-requires : goal.read-requires
read-requires g c =
    let within = within_at c.args.self.now.nfa.now c.args.states.now c.loop-i.i _ c.requires (omega arith)
    c.get.ensures in
    (search rules, (search rules, within))

pub loop-i-init : goal.loop-i-init
loop-i-init g c = reads_none _ _ _

pub loop-i-preserved : goal.loop-i-preserved
loop-i-preserved g c = reads_more _ _ _ _ _ _ _ _ c.loop-i.invariant (omega arith) c.get.ensures c.read.ensures

pub returns : goal.returns
returns g c = reads_all _ _ _ _ _ _ c.loop-i.invariant (omega arith)
