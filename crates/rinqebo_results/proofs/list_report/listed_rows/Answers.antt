use Rattle.std.proofs.Common.{◌≡◌, ◌∙◌, List, ap, map, subst, IfOk}
use Rattle.filter_language.specs.Filtersets.{marks_view}
use Rattle.filter_inputs.specs.Lists.ListView.{list_test_view}
use Rattle.filter_engine.specs.Compiling.{names_of}
use Rattle.filter_engine.specs.Engine.{filter_holds}
use Rattle.nextest_inheritance.specs.View.{borrowed_view}
use Rattle.nextest_settings.specs.Profiles.Meaning.{profile_meaning}
use Rattle.nextest_settings.specs.Queries.{query_in}
use Rattle.rinqebo_objects.specs.Uses.{AreUsesIn}
use Rattle.rinqebo_origins.specs.TestOrigins.{Basis}
use Rattle.rinqebo_rules.specs.Rows.{AreTestsReported}
use Rattle.rinqebo_rules.specs.Unused.{AreUnusedIn, AreUsedIn}
use Rattle.rinqebo_results.proofs.Listing.{basis_here}
use Rattle.filter_inputs.specs.Lists.ListView.{list_view}
use Rattle.filter_inputs.specs.Lists.Lists.{ListTest, list_tests}
use Rattle.rinqebo_results.proofs.list_report.listed_rows.Goals as goal

pub returns-clause-tests : goal.returns-clause-tests
returns-clause-tests g c =
    let session = c.args.session.now in
    let Told : Basis → List ListTest → Type 0 = λ basis tests. IfOk c.list.result
    (λ rows. AreTestsReported basis filter_holds c.args.mode (profile_meaning (marks_view names_of) c.args.profile.now)
    c.args.asked.now tests rows.tests.items) in
    subst (λ basis. Told basis (list_tests (list_view session.tests)))
    (basis_here session c.new-origins.result _ (borrowed_view c.args.chain.now) c.new-origins.ensures
    c.deref.ensures.value)
    (subst (Told c.new-origins.result) (ap (map list_test_view) c.deref-2.ensures.value ∙ c.in_ok-tests.ensures)
    c.list.ensures.tests)

pub returns-clause-unused : goal.returns-clause-unused
returns-clause-unused g c =
    let profile = profile_meaning (marks_view names_of) c.args.profile.now in
    subst (λ tests. IfOk c.list.result
    (λ rows. AreUnusedIn (map (query_in filter_holds profile) (map (λ t. t.test) tests)) profile rows.unused))
    (ap (map list_test_view) c.deref-2.ensures.value ∙ c.in_ok-tests.ensures) c.list.ensures.unused

pub returns-clause-used : goal.returns-clause-used
returns-clause-used g c =
    let profile = profile_meaning (marks_view names_of) c.args.profile.now in
    subst (λ tests. IfOk c.list.result
    (λ rows. AreUsedIn (map (query_in filter_holds profile) (map (λ t. t.test) tests)) c.args.mode profile rows.used))
    (ap (map list_test_view) c.deref-2.ensures.value ∙ c.in_ok-tests.ensures) c.list.ensures.used

pub returns-clause-uses : goal.returns-clause-uses
returns-clause-uses g c =
    let profile = profile_meaning (marks_view names_of) c.args.profile.now in
    subst (λ tests. IfOk c.list.result
    (λ rows. AreUsesIn filter_holds profile (map (λ t. t.test) tests) rows.uses.items))
    (ap (map list_test_view) c.deref-2.ensures.value ∙ c.in_ok-tests.ensures) c.list.ensures.uses
