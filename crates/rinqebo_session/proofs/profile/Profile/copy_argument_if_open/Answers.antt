use Rattle.std.proofs.Common.{◌∙◌, refl}
use Rattle.rinqebo_session.proofs.profile.Profile.copy_argument_if_open.Goals as goal

pub returns-in-Ok : goal.returns-in-Ok
returns-in-Ok c = rw c.in-Ok.is c.copy_argument.ensures

pub returns-in-Err : goal.returns-in-Err
returns-in-Err c =
    let copied = c.copy_nothing.ensures in
    rw c.in-Err.is (copied.status ∙ c.status.ensures, copied.needed, refl)
