use Rattle.std.proofs.Common.{rules}
use Rattle.nextest_inheritance.proofs.Walking.{ring_seen}
use Rattle.nextest_inheritance.proofs.cycles.Walk.ring.Goals as goal

pub returns : goal.returns
returns c =
    rw c.deref-2.ensures.value
    (ring_seen c.args.self.now.end.now c.args.self.now.path.items c.unwrap_or.result (search rules))
