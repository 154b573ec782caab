use Rattle.std.proofs.Common.{sym, subst}
use Rattle.rinqebo_checks.specs.Faults.{AreJoined}
use Rattle.rinqebo_checks.proofs.Joining.{none_joined}
use Rattle.rinqebo_checks.proofs.value_faults.joined_marks.Goals as goal

pub loop-place-init : goal.loop-place-init
loop-place-init c =
    subst (AreJoined c.args.faults.now) (sym (c.in_ok-marks.ensures.items_if_clones_equal (λ mark same. same)))
    (none_joined c.args.faults.now _)
