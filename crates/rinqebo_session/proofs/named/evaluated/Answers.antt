use Rattle.std.proofs.Common.{[]}
use Rattle.nextest_config.specs.Answers.{Question}
use Rattle.nextest_config.proofs.Answers.{asked_profile}
use Rattle.nextest_elements.specs.declared.run_mode.NextestRunMode.TheVariants.{Test}
use Rattle.platform_language.specs.Expressions.{spec_view}
use Rattle.platform_language.specs.declared.platforms.Platform.{Platform}
use Rattle.rinqebo_session.specs.Opening.{read_in}
use Rattle.rinqebo_session.specs.Readings.{filter_meaning, holds_on}
use Rattle.rinqebo_session.proofs.named.evaluated.Goals as goal

pub early_profile-requires : goal.early_profile-requires
early_profile-requires c = c.requires

pub returns-in-Ok : goal.returns-in-Ok
returns-in-Ok c =
    let loaded = c.args.loaded.now in
    let question : Question Platform = record {
      profile = c.args.profile.now;
      platforms = loaded.platforms;
      mode = Test;
      tests = [];
    } in
    let is = asked_profile filter_meaning spec_view holds_on question (read_in loaded) c.in_ok-early.early
    c.in-Ok.profile c.in_ok-early.ensures c.in-Ok.ensures.ok in
    record { chain = is.chain; is_chain = is.is_chain; is_profile = is.is_profile }
