use Rattle.std.proofs.Common.{map}
use Rattle.nextest_settings.specs.Profiles.Meaning.{profile_meaning}
use Rattle.nextest_settings.specs.Queries.{query_in}
use Rattle.rinqebo_rules.proofs.scripts.scripts_by.Goals as goal

pub returns : goal.returns
returns g c = λ tests mode are.
    let F = g.F.Filters in
    let profile = profile_meaning F.meaning c.args.profile.now in
    record {
      setup_reported = c.in_ok-setup_scripts.ensures (map (query_in F.holds profile) tests) mode are;
      wrappers_reported = c.in_ok-list_wrappers.ensures;
    }
