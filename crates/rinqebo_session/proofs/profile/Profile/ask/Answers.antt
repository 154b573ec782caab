use Rattle.std.proofs.Common.{◌∙◌, refl, sym, true≢false}
use Rattle.rinqebo_session.specs.Answering.{AreSized}
use Rattle.rinqebo_session.proofs.Statuses.{answer_of_no_size}
use Rattle.rinqebo_session.proofs.profile.Profile.ask.Goals as goal

pub returns-then-not-are_sized : goal.returns-then-not-are_sized
returns-then-not-are_sized c =
    let other : ¬ AreSized c.args.test.now c.args.settings.now =
    λ is. true≢false (sym (c.are_sized.ensures.1 is) ∙ c.if-not-are_sized.true) in
    record {
      sized = λ is. absurd (other is);
      bad_size = (λ is. other, λ is. refl);
      kept = λ is. refl;
    }

pub returns : goal.returns
returns c =
    let asked = c.ask_if_open in
    record {
      sized = λ is. asked.ensures.answers;
      bad_size = (
        λ is. absurd (answer_of_no_size c.args.self.now.outcome c.args.test.now asked.new.settings asked.result
            asked.ensures.answers is),
        λ other. absurd (other (c.are_sized.ensures.0 c.if-not-are_sized.false)),
      );
      kept = asked.ensures.kept;
    }
