use Rattle.std.proofs.Common.{◌∙◌, refl, sym, true≢false}
use Rattle.rinqebo_session.proofs.profile.Profile.copy_argument.Goals as goal

pub returns-then-not-is_sized : goal.returns-then-not-is_sized
returns-then-not-is_sized c =
    let copied = c.copy_nothing.ensures in
    record {
      sized = λ is. absurd (true≢false (sym (c.is_sized.ensures.1 is) ∙ c.if-not-is_sized.true));
      bad_size = λ other. (copied.status, copied.needed, refl);
    }

pub returns : goal.returns
returns c = record {
  sized = λ is. c.copy_argument_if_open.ensures;
  bad_size = λ other. absurd (other (c.is_sized.ensures.0 c.if-not-is_sized.false));
}
