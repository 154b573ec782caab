use Rattle.std.proofs.Common.{◌∙◌, ap}
use Rattle.nextest_config.proofs.IsNotFound.{known_in}
use Rattle.nextest_load.specs.ConfigView.{merged_profile_view}
use Rattle.nextest_tables.specs.FileTexts.{names_in}
use Rattle.nextest_tree.specs.Schema.{is_one_of}
use Rattle.rinqebo_load.proofs.profiles.has_profile.Goals as goal

pub returns : goal.returns
returns c =
    let name = c.args.name.now in
    c.contains_key.ensures ∙ known_in merged_profile_view c.profiles.result.now.entries name
    ∙ ap (λ profiles. is_one_of (names_in profiles) name) c.profiles.ensures.profiles
