use Rattle.std.proofs.Common.{◌≡◌, length, arith}
use Rattle.nextest_shape.proofs.faults.Trees.{first_there}
use Rattle.nextest_shape.proofs.faults.across.first_cause.Goals as goal

pub returns-else-is_empty : goal.returns-else-is_empty
returns-else-is_empty c =
    let some : length c.args.items.now ≡ 0 → ⊥ = grind arith in
    first_there c.args.items.now some
