use Rattle.nextest_settings.specs.Profile.{profile_of, profile_on}
use Rattle.nextest_settings.specs.Queries.{query_in}
use Rattle.nextest_settings.proofs.profiles.IsAmong.{group_known}
use Rattle.nextest_settings.proofs.profiles.laws.law_known_groups.Goals as goal

pub returns : goal.returns
returns g c = λ configured name chain platforms mode test closed.
    let meets = g.S.Specs.holds_on in
    let profile = profile_on meets platforms (profile_of configured name chain) in
    group_known meets platforms configured name chain closed.groups (query_in g.F.Filters.holds profile test) mode
