use Rattle.std.proofs.Common.{◌≡◌, ℕ, List, Option, inl, inr, subst, sym}
use Rattle.std.proofs.lemmas.Result.{IfErr-weaker, on_ok_weaker}
use Rattle.filter_language.specs.Filtersets.{marks_view}
use Rattle.filter_engine.specs.Compiling.{names_of}
use Rattle.filter_engine.specs.Engine.{filter_holds}
use Rattle.nextest_inheritance.specs.View.{borrowed_view}
use Rattle.nextest_settings.specs.Profiles.Meaning.{profile_meaning}
use Rattle.rinqebo_results.proofs.Stops.{first_or_none, passed_stop, stops_behind, stops_so}
use Rattle.rinqebo_results.proofs.Writing.{all_first, rest_here}
use Rattle.rinqebo_results.specs.Begun.{tests_text, AreFirstWritten}
use Rattle.rinqebo_results.specs.ListedBy.{basis_of, places_of}
use Rattle.rinqebo_results.specs.Written.{EndsPage, WritesRest}
use Rattle.rinqebo_results.specs.declared.list_stop.ListStop.TheVariants as faults
use Rattle.filter_inputs.specs.Lists.ListView.{list_view}
use Rattle.filter_inputs.specs.Lists.Lists.{list_tests}
use Rattle.rinqebo_results.proofs.list_page.ListPage.write_rest.Goals as goal

pub returns-in_err-count-clause-err : goal.returns-in_err-count-clause-err
returns-in_err-count-clause-err g c =
    let self = c.args.self.now in
    let session = self.session.now in
    let list = self.list in
    let chain = borrowed_view c.args.chain.now in
    let profile = profile_meaning (marks_view names_of) c.args.on.now in
    let old = g.O.Write.contents c.args.out.now in
    let new = g.O.Write.contents c.write_rows.new.out in
    let fault = c.in_err-count.field-0.0 in
    let First : Option (List ℕ) → Type 0 =
    AreFirstWritten (basis_of session chain) filter_holds list.mode profile list.settings.now
    (list_tests (list_view session.tests)) self.head.now self.paper old in
    passed_stop _ c.from_residual.result fault c.from_residual.ensures.1
    (stops_so (λ _. ⊥) (λ _. ⊥) First First (λ _. ⊥)
    (WritesRest session chain profile list.mode list.settings.now self.head.now self.paper old) old new fault
    (λ _ none. none) (λ _ first. first) (λ _ none. absurd none) c.in_err-count.ensures.err)

pub returns-in_err-rules-clause-err : goal.returns-in_err-rules-clause-err
returns-in_err-rules-clause-err g c =
    let self = c.args.self.now in
    let session = self.session.now in
    passed_stop _ c.from_residual-in_err-rules.result faults.Memory
    c.from_residual-in_err-rules.ensures.1
    (inl (all_first (basis_of session (borrowed_view c.args.chain.now)) self.list.mode
    (profile_meaning (marks_view names_of) c.args.on.now) self.list.settings.now self.head.now self.paper
    (list_tests (list_view session.tests)) (g.O.Write.contents c.args.out.now) (g.O.Write.contents c.write_rows.new.out)
    c.in_ok-count.ensures.tests))

pub returns-in_err-scripts_by_used-clause-err : goal.returns-in_err-scripts_by_used-clause-err
returns-in_err-scripts_by_used-clause-err g c =
    let self = c.args.self.now in
    let session = self.session.now in
    passed_stop _ c.from_residual-in_err-scripts_by_used.result faults.Memory
    c.from_residual-in_err-scripts_by_used.ensures.1
    (inl (all_first (basis_of session (borrowed_view c.args.chain.now)) self.list.mode
    (profile_meaning (marks_view names_of) c.args.on.now) self.list.settings.now self.head.now self.paper
    (list_tests (list_view session.tests)) (g.O.Write.contents c.args.out.now) (g.O.Write.contents c.write_rows.new.out)
    c.in_ok-count.ensures.tests))

pub returns-clause-ok : goal.returns-clause-ok
returns-clause-ok g c =
    let self = c.args.self.now in
    let rows = c.in_ok-count.ensures in
    on_ok_weaker c.write_end.result
    (rest_here self.session.now (borrowed_view c.args.chain.now) (profile_meaning (marks_view names_of) c.args.on.now)
    self.list.mode self.list.settings.now self.head.now self.paper c.in_ok-rules.rules c.in_ok-scripts_by_used.field-0
    c.in_ok-count.count (g.O.Write.contents c.args.out.now) (g.O.Write.contents c.write_rows.new.out)
    (g.O.Write.contents c.write_end.new.out) rows.tests rows.count rows.fits
    (c.in_ok-rules.ensures _ self.list.mode rows.used)
    (c.in_ok-scripts_by_used.ensures self.list.mode rows.used))
    c.write_end.ensures.ok

pub returns-clause-err : goal.returns-clause-err
returns-clause-err g c =
    let self = c.args.self.now in
    let session = self.session.now in
    let list = self.list in
    let chain = borrowed_view c.args.chain.now in
    let profile = profile_meaning (marks_view names_of) c.args.on.now in
    let tests = list_tests (list_view session.tests) in
    let rows = c.in_ok-count.ensures in
    let old = g.O.Write.contents c.args.out.now in
    let mid = g.O.Write.contents c.write_rows.new.out in
    let new = g.O.Write.contents c.write_end.new.out in
    let First : Option (List ℕ) → Type 0 =
    AreFirstWritten (basis_of session chain) filter_holds list.mode profile list.settings.now tests self.head.now
    self.paper old in
    let all : First mid =
    all_first (basis_of session chain) list.mode profile list.settings.now self.head.now self.paper tests old mid
    rows.tests in
    IfErr-weaker c.write_end.result _ _
    (λ fault. stops_behind (λ _. ⊥) First
    (EndsPage session self.head.now self.paper c.in_ok-count.count (places_of c.in_ok-rules.rules) mid)
    (WritesRest session chain profile list.mode list.settings.now self.head.now self.paper old) old mid new fault
    (tests_text self.head.now self.paper rows.tests.tests, rows.tests.page)
    (first_or_none (λ _. ⊥) First mid (λ _ none. absurd none) (λ whole same. subst First (sym same) all))
    (λ whole end. inr (rest_here session chain profile list.mode list.settings.now self.head.now self.paper
    c.in_ok-rules.rules c.in_ok-scripts_by_used.field-0 c.in_ok-count.count old mid whole rows.tests rows.count rows.fits
    (c.in_ok-rules.ensures _ self.list.mode rows.used)
    (c.in_ok-scripts_by_used.ensures self.list.mode rows.used) end)))
    c.write_end.ensures.err
