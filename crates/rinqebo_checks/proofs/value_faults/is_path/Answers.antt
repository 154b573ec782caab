use Rattle.std.proofs.Common.{arith}
use Rattle.rinqebo_checks.proofs.Joining.{steps_all, steps_more}
use Rattle.rinqebo_checks.proofs.value_faults.is_path.Goals as goal

pub loop-place-preserved : goal.loop-place-preserved
loop-place-preserved c =
    steps_more c.args.one.now c.args.other.now c.loop-place.place _ _ c.loop-place-test.true (omega arith)
    (c.is_step.ensures c.if-not-is_step.false) c.loop-place.invariant

pub returns : goal.returns
returns c =
    λ same. steps_all c.args.one.now c.args.other.now c.loop-place.place (omega arith) (omega arith) c.loop-place.invariant
