use Rattle.std.proofs.Common.{◌≡◌, ◌∙◌, ap, map, refl, subst, sym, take}
use Rattle.std.proofs.lemmas.List.{take_all}
use Rattle.std.specs.List.{AllZip}
use Rattle.filter_inputs.specs.Lists.ListView.{list_test_view}
use Rattle.nextest_settings.specs.Profiles.Meaning.{profile_meaning}
use Rattle.nextest_settings.specs.Queries.{query_in}
use Rattle.rinqebo_objects.specs.Uses.{AreUsesIn}
use Rattle.rinqebo_rules.specs.Rows.{IsTestReported}
use Rattle.rinqebo_rules.specs.Unused.{AreUnusedIn, AreUsedIn}
use Rattle.rinqebo_rules.proofs.ListedTests.{made_twice, zip_mapped}
use Rattle.rinqebo_rules.proofs.Marked.{map_more, twice}
use Rattle.rinqebo_origins.proofs.RowsMore.{zip_more_by}
use Rattle.rinqebo_rules.proofs.lister.Lister.list.Goals as goal

pub loop-test-preserved : goal.loop-test-preserved
loop-test-preserved g c =
    let F = g.F.Filters in
    let self = c.args.self.now in
    let profile = profile_meaning F.meaning self.profile.now in
    let before = c.loop-test.invariant in
    record {
      lister = c.next_reported.ensures.lister ∙ before.lister;
      same = c.next_reported.ensures.same ∙ before.same;
      told = zip_more_by (λ basis test. IsTestReported basis (query_in F.holds profile (list_test_view test).test) self.mode profile
          self.asked.now (list_test_view test)) c.args.origins.now c.loop-test.origins before.same c.args.listed.now
          c.loop-test.test-index _ _ c.loop-test-test.true refl _ _ _ before.told
          (rw before.lister at c.in_ok-rows.ensures.told)
          c.in_ok-push.ensures.items;
      marked = subst (λ tests. AreUsedIn tests self.mode profile c.next_reported.new.used)
          (map_more (λ test. query_in F.holds profile (list_test_view test).test) c.args.listed.now
          c.loop-test.test-index _ _ c.loop-test-test.true refl)
          ((rw before.lister at c.in_ok-rows.ensures.used) _ before.marked);
      uses = subst (λ tests. AreUsesIn F.holds profile tests c.next_reported.new.uses.items)
          (map_more (λ test. (list_test_view test).test) c.args.listed.now c.loop-test.test-index _ _ c.loop-test-test.true refl)
          ((rw before.lister at c.in_ok-rows.ensures.scripts) _ _ before.marked before.uses);
    }

pub returns-clause-tests : goal.returns-clause-tests
returns-clause-tests g c =
    let F = g.F.Filters in
    let self = c.args.self.now in
    let profile = profile_meaning F.meaning self.profile.now in
    let listed = c.args.listed.now in
    let all : take c.loop-test.test-index listed ≡ listed =
    take_all c.loop-test.test-index listed c.loop-test-test.false in
    zip_mapped list_test_view (λ t. IsTestReported c.args.origins.now (query_in F.holds profile t.test) self.mode profile
    self.asked.now t) listed c.loop-test.tests.items
    (subst (λ ts. AllZip (λ test. IsTestReported c.args.origins.now (query_in F.holds profile (list_test_view test).test)
    self.mode profile self.asked.now (list_test_view test)) ts c.loop-test.tests.items) all c.loop-test.invariant.told)

pub returns-clause-unused : goal.returns-clause-unused
returns-clause-unused g c =
    let F = g.F.Filters in
    let self = c.args.self.now in
    let profile = profile_meaning F.meaning self.profile.now in
    let listed = c.args.listed.now in
    subst (λ tests. AreUnusedIn tests profile c.in_ok-unused.unused)
    (ap (map (λ test. query_in F.holds profile (list_test_view test).test))
    (take_all c.loop-test.test-index listed c.loop-test-test.false)
    ∙ twice (query_in F.holds profile) (λ t. t.test) list_test_view listed)
    (c.in_ok-unused.ensures _ self.mode c.loop-test.invariant.marked)

pub returns-clause-used : goal.returns-clause-used
returns-clause-used g c =
    let F = g.F.Filters in
    let self = c.args.self.now in
    let profile = profile_meaning F.meaning self.profile.now in
    let listed = c.args.listed.now in
    subst (λ tests. AreUsedIn tests self.mode profile c.loop-test.used)
    (ap (map (λ test. query_in F.holds profile (list_test_view test).test))
    (take_all c.loop-test.test-index listed c.loop-test-test.false)
    ∙ twice (query_in F.holds profile) (λ t. t.test) list_test_view listed)
    c.loop-test.invariant.marked

pub returns-clause-uses : goal.returns-clause-uses
returns-clause-uses g c =
    let F = g.F.Filters in
    let profile = profile_meaning F.meaning c.args.self.now.profile.now in
    let listed = c.args.listed.now in
    subst (λ tests. AreUsesIn F.holds profile tests c.loop-test.uses.items)
    (ap (map (λ test. (list_test_view test).test)) (take_all c.loop-test.test-index listed c.loop-test-test.false)
    ∙ sym (made_twice (λ t. t.test) list_test_view listed))
    c.loop-test.invariant.uses
