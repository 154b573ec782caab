use Rattle.std.proofs.Common.{◌∙◌, ap}
use Rattle.nextest_settings.specs.Profile.{profile_on}
use Rattle.rinqebo_rules.specs.Conditions.{is_met_by}
use Rattle.rinqebo_results.proofs.list_report.profile_on.Goals as goal

pub early_profile-requires : goal.early_profile-requires
early_profile-requires c = c.requires

pub returns-in-Ok : goal.returns-in-Ok
returns-in-Ok c =
    let early = c.in_ok-early.ensures in
    record {
      chain = early.chain;
      is_chain = early.is_chain;
      is_profile = c.in-Ok.ensures.ok
          ∙ ap (profile_on is_met_by c.args.session.now.engines.platforms) early.is_profile;
    }
