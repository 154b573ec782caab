use Rattle.std.proofs.Common.{◌∙◌, ap, sym}
use Rattle.nextest_config.proofs.IsNotFound.{names_of_view}
use Rattle.nextest_load.specs.ConfigView.{merged_profile_view}
use Rattle.nextest_tables.specs.FileTexts.{names_in}
use Rattle.rinqebo_session.proofs.named.profile_names.Goals as goal

pub returns-clause-all : goal.returns-clause-all
returns-clause-all c =
    c.in_ok-names.ensures.all ∙ sym (names_of_view merged_profile_view c.profiles.result.now.entries)
    ∙ ap names_in c.profiles.ensures.profiles
