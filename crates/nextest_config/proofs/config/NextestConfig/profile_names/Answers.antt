use Rattle.std.proofs.Common.{◌∙◌, sym}
use Rattle.nextest_load.specs.ConfigView.{merged_profile_view}
use Rattle.nextest_config.proofs.IsNotFound.{names_of_view}
use Rattle.nextest_config.proofs.config.NextestConfig.profile_names.Goals as goal

pub returns : goal.returns
returns g c =
    rw (← c.self.view_is, ← c.profiles.ensures.profiles)
    (c.in_ok-names.ensures.all ∙ sym (names_of_view merged_profile_view c.profiles.result.now.entries))
