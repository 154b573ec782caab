use Rattle.std.proofs.Common.{◌∙◌, refl, sym}
use Rattle.rinqebo_session.proofs.Statuses.{fault_fails}
use Rattle.rinqebo_session.proofs.profile.Opened.write_answer.Goals as goal

pub returns-in-Ok : goal.returns-in-Ok
returns-in-Ok c = record {
  answers = record {
    answered = λ done. c.in-Ok.ensures.ok;
    refused = λ other. absurd (other refl);
  };
  kept = λ other. absurd (other refl);
}

pub returns-in-Err : goal.returns-in-Err
returns-in-Err c = record {
  answers = record {
    answered = λ done. absurd (fault_fails c.in-Err.fault (sym c.status.ensures ∙ done));
    refused = λ other. (c.in-Err.fault, c.in-Err.ensures.err, c.status.ensures);
  };
  kept = λ other. refl;
}
