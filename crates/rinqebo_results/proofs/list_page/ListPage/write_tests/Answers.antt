use Rattle.std.proofs.Common.{◌≡◌, ◌∙◌, ◌+◌, ◌++◌, ◌∷◌, [], ap, inl, map, refl, subst}
use Rattle.std.proofs.KnownBytes.{Appends-nil}
use Rattle.std.proofs.lemmas.List.{take_all}
use Rattle.std.specs.List.{AllZip}
use Rattle.filter_language.specs.Filtersets.{marks_view}
use Rattle.filter_inputs.specs.Lists.ListView.{list_test_view}
use Rattle.filter_engine.specs.Compiling.{names_of}
use Rattle.filter_engine.specs.Engine.{filter_holds}
use Rattle.nextest_settings.specs.Profiles.Meaning.{profile_meaning}
use Rattle.nextest_settings.specs.Queries.{query_in}
use Rattle.rinqebo_rules.specs.Rows.{IsTestReported}
use Rattle.rinqebo_rules.specs.Unused.{AreUsedIn}
use Rattle.rinqebo_rules.proofs.ListedTests.{zip_mapped}
use Rattle.rinqebo_rules.proofs.Marked.{map_more, twice}
use Rattle.rinqebo_origins.proofs.RowsMore.{zip_more_by}
use Rattle.rinqebo_results.specs.declared.list_stop.ListStop.TheVariants as faults
use Rattle.rinqebo_results.specs.Begun.{tests_text, AreFirstWritten}
use Rattle.rinqebo_results.proofs.Stops.{passed_stop, stops_text}
use Rattle.rinqebo_results.proofs.Writing.{first_so_far, one_more}
use Rattle.rinqebo_results.proofs.list_page.ListPage.write_tests.Goals as goal

pub loop-place-init : goal.loop-place-init
loop-place-init g c = record {
  lister = c.in_turn-listing.ensures;
  same = refl;
  rows = [];
  told = tt;
  page = Appends-nil (g.O.Write.contents c.args.out.now);
  marked = c.in_ok-used.ensures;
}

pub loop-place-preserved : goal.loop-place-preserved
loop-place-preserved g c =
    let asking = c.args.asking.now in
    let profile = profile_meaning (marks_view names_of) asking.profile.now in
    let listed = c.args.listed.now in
    let before = c.loop-place.invariant in
    let shows = rw before.lister at c.in_ok-text.ensures.shown in
    record {
      lister = c.test_text.ensures.lister ∙ before.lister;
      same = c.test_text.ensures.same ∙ before.same;
      rows = before.rows ++ shows.rows ∷ [];
      told = zip_more_by (λ basis test. IsTestReported basis (query_in filter_holds profile (list_test_view test).test)
          asking.mode profile asking.asked.now (list_test_view test)) c.args.origins.now c.loop-place.origins before.same listed
          c.loop-place.place _ _ c.loop-place-test.true refl before.rows _ shows.rows before.told
          shows.are_reported refl;
      page = one_more c.args.self.now.head.now c.args.self.now.paper before.rows (before.rows ++ shows.rows ∷ [])
          shows.rows c.as_str.result.now _ _ _ refl (c.as_str.ensures.value ∙ shows.shown) before.page
          c.in_ok-write_text.ensures.ok;
      marked = subst (λ tests. AreUsedIn tests asking.mode profile c.test_text.new.used)
          (map_more (λ test. query_in filter_holds profile (list_test_view test).test) listed c.loop-place.place _ _
          c.loop-place-test.true refl)
          ((rw before.lister at c.in_ok-text.ensures.used) _ before.marked);
    }

pub returns-clause-tests : goal.returns-clause-tests
returns-clause-tests g c =
    let asking = c.args.asking.now in
    let profile = profile_meaning (marks_view names_of) asking.profile.now in
    let listed = c.args.listed.now in
    let before = c.loop-place.invariant in
    record {
      tests = before.rows;
      are_reported = zip_mapped list_test_view (λ t. IsTestReported c.args.origins.now
          (query_in filter_holds profile t.test) asking.mode profile asking.asked.now t) listed before.rows
          (subst (λ ts. AllZip (λ test. IsTestReported c.args.origins.now
          (query_in filter_holds profile (list_test_view test).test) asking.mode profile asking.asked.now
          (list_test_view test)) ts before.rows)
          (take_all c.loop-place.place listed c.loop-place-test.false) before.told);
      page = before.page;
    }

pub returns-in_err-text-clause-err : goal.returns-in_err-text-clause-err
returns-in_err-text-clause-err g c =
    let asking = c.args.asking.now in
    let self = c.args.self.now in
    let before = c.loop-place.invariant in
    passed_stop _ c.from_residual-in_err-text.result faults.Memory c.from_residual-in_err-text.ensures.1
    (inl (first_so_far c.args.origins.now asking.mode (profile_meaning (marks_view names_of) asking.profile.now) asking.asked.now
    self.head.now self.paper c.args.listed.now c.loop-place.place before.rows _ _ before.told before.page))

pub returns-in_err-write_text-clause-err : goal.returns-in_err-write_text-clause-err
returns-in_err-write_text-clause-err g c =
    let asking = c.args.asking.now in
    let profile = profile_meaning (marks_view names_of) asking.profile.now in
    let self = c.args.self.now in
    let listed = c.args.listed.now in
    let before = c.loop-place.invariant in
    let shows = rw before.lister at c.in_ok-text.ensures.shown in
    let old = g.O.Write.contents c.args.out.now in
    let mid = g.O.Write.contents c.loop-place.out in
    let new = g.O.Write.contents c.write_text.new.out in
    let more = before.rows ++ shows.rows ∷ [] in
    passed_stop _ c.from_residual-in_err-write_text.result c.in_err-write_text.field-0.0
    c.from_residual-in_err-write_text.ensures.1
    (stops_text (λ _. ⊥)
    (AreFirstWritten c.args.origins.now filter_holds asking.mode profile asking.asked.now (map list_test_view listed)
    self.head.now self.paper old)
    (λ _. ⊥) old mid new c.as_str.result.now c.in_err-write_text.field-0.0 c.in_err-write_text.ensures.err
    (tests_text self.head.now self.paper before.rows, before.page) c.write_text.ensures.begun
    (λ whole written. inl (first_so_far c.args.origins.now asking.mode profile asking.asked.now self.head.now self.paper
    listed (c.loop-place.place + 1) more old whole
    (zip_more_by (λ basis test. IsTestReported basis (query_in filter_holds profile (list_test_view test).test)
    asking.mode profile asking.asked.now (list_test_view test)) c.args.origins.now c.loop-place.origins before.same listed
    c.loop-place.place _ _ c.loop-place-test.true refl before.rows more shows.rows before.told shows.are_reported refl)
    (one_more self.head.now self.paper before.rows more shows.rows c.as_str.result.now old mid whole refl
    (c.as_str.ensures.value ∙ shows.shown) before.page written))))

pub returns-clause-used : goal.returns-clause-used
returns-clause-used g c =
    let asking = c.args.asking.now in
    let profile = profile_meaning (marks_view names_of) asking.profile.now in
    let listed = c.args.listed.now in
    subst (λ tests. AreUsedIn tests asking.mode profile c.loop-place.used)
    (ap (map (λ test. query_in filter_holds profile (list_test_view test).test))
    (take_all c.loop-place.place listed c.loop-place-test.false)
    ∙ twice (query_in filter_holds profile) (λ t. t.test) list_test_view listed)
    c.loop-place.invariant.marked
