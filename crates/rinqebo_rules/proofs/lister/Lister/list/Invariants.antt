use Rattle.std.proofs.Common.{◌≡◌, map, take}
use Rattle.std.specs.List.{AllZip}
use Rattle.filter_inputs.specs.Lists.ListView.{list_test_view}
use Rattle.nextest_settings.specs.Profiles.Meaning.{profile_meaning}
use Rattle.nextest_settings.specs.Queries.{query_in}
use Rattle.rinqebo_objects.specs.Uses.{AreUsesIn}
use Rattle.rinqebo_rules.specs.Rows.{IsTestReported}
use Rattle.rinqebo_rules.specs.Unused.{AreUsedIn}
use Rattle.rinqebo_rules.proofs.lister.Lister.list.Given as goal

-- the tests so far are reported, with what they use of scripts
abbrev pub invariant-loop-test : goal.invariant-loop-test
invariant-loop-test g l =
    let F = g.F.Filters in
    let profile = profile_meaning F.meaning l.self.profile.now in
    record {
      lister : l.listing.lister ≡ l.self;
      same : l.origins ≡ l.initial.origins;
      told : AllZip (λ test. IsTestReported l.initial.origins (query_in F.holds profile (list_test_view test).test)
          l.self.mode profile l.self.asked.now (list_test_view test)) (take l.test-index l.listed) l.tests.items;
      marked : AreUsedIn (map (λ test. query_in F.holds profile (list_test_view test).test) (take l.test-index l.listed))
          l.self.mode profile l.used;
      uses : AreUsesIn F.holds profile (map (λ test. (list_test_view test).test) (take l.test-index l.listed)) l.uses.items;
    }
