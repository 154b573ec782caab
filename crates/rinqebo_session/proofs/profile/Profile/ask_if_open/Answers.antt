use Rattle.std.proofs.Common.{refl}
use Rattle.rinqebo_session.proofs.profile.Profile.ask_if_open.Goals as goal

pub returns-in-Ok : goal.returns-in-Ok
returns-in-Ok c = record {
  answers = rw c.in-Ok.is c.write_answer.ensures.answers;
  kept = c.write_answer.ensures.kept;
}

pub returns-in-Err : goal.returns-in-Err
returns-in-Err c = record {
  answers = rw c.in-Err.is c.status.ensures;
  kept = λ other. refl;
}
