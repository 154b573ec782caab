use Rattle.std.proofs.Common.{◌≡◌, ◌∙◌, List, ap, arith, length, map, subst, sym}
use Rattle.std.proofs.lemmas.List.{length-map}
use Rattle.filter_language.specs.Filtersets.{marks_view}
use Rattle.filter_engine.specs.Compiling.{names_of}
use Rattle.filter_engine.specs.Engine.{filter_holds}
use Rattle.nextest_inheritance.specs.View.{borrowed_view}
use Rattle.nextest_settings.specs.Profiles.Meaning.{profile_meaning}
use Rattle.nextest_settings.specs.Queries.{query_in}
use Rattle.rinqebo_origins.specs.TestOrigins.{Basis}
use Rattle.rinqebo_rules.specs.Unused.{AreUsedIn}
use Rattle.rinqebo_results.specs.Begun.{AreFirstWritten, AreWritten}
use Rattle.rinqebo_results.specs.Written.{StopsList}
use Rattle.rinqebo_results.proofs.Listing.{basis_here}
use Rattle.rinqebo_results.proofs.Stops.{passed_stop}
use Rattle.filter_inputs.specs.Lists.ListView.{list_test_view, list_view}
use Rattle.filter_inputs.specs.Lists.Lists.{ListTest, list_tests}
use Rattle.rinqebo_results.proofs.list_page.ListPage.write_rows.Goals as goal

pub returns-clause-tests : goal.returns-clause-tests
returns-clause-tests g c =
    let self = c.args.self.now in
    let list = self.list in
    let old = g.O.Write.contents c.args.out.now in
    let new = g.O.Write.contents c.write_tests.new.out in
    let Told : Basis → List ListTest → Type 0 = λ basis tests. AreWritten basis filter_holds list.mode
    (profile_meaning (marks_view names_of) c.args.on.now) list.settings.now tests self.head.now self.paper old new in
    subst (λ basis. Told basis (list_tests (list_view self.session.now.tests)))
    (basis_here self.session.now c.new-origins.result _ (borrowed_view c.args.chain.now) c.new-origins.ensures
    c.deref.ensures.value)
    (subst (Told c.new-origins.result) (ap (map list_test_view) c.deref-2.ensures.value ∙ c.in_ok-tests.ensures)
    c.in_ok-used.ensures.tests)

pub returns-clause-count : goal.returns-clause-count
returns-clause-count g c =
    c.len.ensures ∙ c.in_ok-tests.tests.ok.0 ∙ sym (length-map c.in_ok-tests.tests.items list_test_view)
    ∙ ap length c.in_ok-tests.ensures

pub returns-clause-fits : goal.returns-clause-fits
returns-clause-fits g c =
    omega (arith, c.len.ensures, c.in_ok-tests.tests.ok.1, c.in_ok-tests.tests.small)

pub returns-clause-used : goal.returns-clause-used
returns-clause-used g c =
    let profile = profile_meaning (marks_view names_of) c.args.on.now in
    subst (λ tests. AreUsedIn (map (query_in filter_holds profile) (map (λ t. t.test) tests)) c.args.self.now.list.mode
    profile c.in_ok-used.used)
    (ap (map list_test_view) c.deref-2.ensures.value ∙ c.in_ok-tests.ensures) c.in_ok-used.ensures.used

pub returns-in_err-used-clause-err : goal.returns-in_err-used-clause-err
returns-in_err-used-clause-err g c =
    let self = c.args.self.now in
    let old = g.O.Write.contents c.args.out.now in
    let new = g.O.Write.contents c.write_tests.new.out in
    let fault = c.in_err-used.field-0.0 in
    let Stops : Basis → List ListTest → Type 0 = λ basis tests. StopsList (λ _. ⊥)
    (AreFirstWritten basis filter_holds self.list.mode (profile_meaning (marks_view names_of) c.args.on.now)
    self.list.settings.now tests self.head.now self.paper old) (λ _. ⊥) old new fault in
    passed_stop _ c.from_residual-in_err-used.result fault c.from_residual-in_err-used.ensures.1
    (subst (λ basis. Stops basis (list_tests (list_view self.session.now.tests)))
    (basis_here self.session.now c.new-origins.result _ (borrowed_view c.args.chain.now) c.new-origins.ensures
    c.deref.ensures.value)
    (subst (Stops c.new-origins.result) (ap (map list_test_view) c.deref-2.ensures.value ∙ c.in_ok-tests.ensures)
    c.in_err-used.ensures.err))
