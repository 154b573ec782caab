use Rattle.std.proofs.Common.{◌≤◌, arith}
use Rattle.rule_lists.proofs.Built.{bits-small, byte-small}
use Rattle.rule_lists.proofs.rows.lists_with.Goals as goal

pub overflow_mul-bits : goal.overflow_mul-bits
overflow_mul-bits g c =
    let small = bits-small (λ list. g.R.Listed.listed c.args.place.now list) c.args.lists.now c.loop-k.k
    c.args.rule.now c.loop-k.bits c.requires c.loop-k.invariant in
    omega (arith, small)

pub overflow_add-bits : goal.overflow_add-bits
overflow_add-bits g c =
    let small = bits-small (λ list. g.R.Listed.listed c.args.place.now list) c.args.lists.now c.loop-k.k
    c.args.rule.now c.loop-k.bits c.requires c.loop-k.invariant in
    let byte : c.from.result ≤ 1 = rw c.from.ensures (byte-small c.is_listed.result) in
    omega (arith, small, byte)
