use Rattle.std.proofs.Common.{sym, subst}
use Rattle.rinqebo_checks.specs.Faults.{AreJoined}
use Rattle.rinqebo_checks.proofs.Joining.{one_joined}
use Rattle.rinqebo_checks.proofs.value_faults.mark_joined.Goals as goal

pub returns-in-Some : goal.returns-in-Some
returns-in-Some c =
    let faults = c.args.faults.now in
    subst (AreJoined faults) (sym c.set_mark.ensures)
    (one_joined faults c.args.marks.now.items c.in-Some.joined c.in-Some.ensures c.requires)
