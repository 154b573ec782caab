use Rattle.std.proofs.Common.{◌≡◌, ℕ, List, Option, inl, inr, refl, sym}
use Rattle.std.proofs.lemmas.Result.{IfErr-weaker, on_ok_weaker}
use Rattle.std.specs.Io.KnownBytes.{Appends}
use Rattle.filter_language.specs.Filtersets.{marks_view}
use Rattle.filter_engine.specs.Compiling.{names_of}
use Rattle.filter_engine.specs.Engine.{filter_holds}
use Rattle.nextest_inheritance.specs.View.{borrowed_view}
use Rattle.nextest_settings.specs.Profiles.Meaning.{profile_meaning}
use Rattle.rinqebo_report.specs.Headers.{list_head_runs}
use Rattle.rinqebo_report.specs.Pieces.{page_text}
use Rattle.rinqebo_results.proofs.Stops.{first_or_none, passed_stop, stops_behind, stops_so}
use Rattle.rinqebo_results.proofs.Writing.{first_here, none_first, page_here}
use Rattle.rinqebo_results.specs.Begun.{AreFirstWritten}
use Rattle.rinqebo_results.specs.ListedBy.{basis_of}
use Rattle.rinqebo_results.specs.Written.{AreFirstBy, WritesPage, WritesRest}
use Rattle.filter_inputs.specs.Lists.ListView.{list_view}
use Rattle.filter_inputs.specs.Lists.Lists.{list_tests}
use Rattle.rinqebo_results.proofs.list_page.ListPage.write_on.Goals as goal

pub returns-in_err-write_head-clause-err : goal.returns-in_err-write_head-clause-err
returns-in_err-write_head-clause-err g c =
    let self = c.args.self.now in
    let session = self.session.now in
    let list = self.list in
    let chain = borrowed_view c.args.chain.now in
    let asked = c.in_ok-asked.asked in
    let profile = profile_meaning (marks_view names_of) c.args.on.now in
    let old = g.O.Write.contents c.args.out.now in
    let new = g.O.Write.contents c.write_head.new.out in
    let fault = c.in_err-write_head.field-0.0 in
    passed_stop _ c.from_residual-in_err-write_head.result fault c.from_residual-in_err-write_head.ensures.1
    (stops_so (λ _. ⊥) (λ _. ⊥) (λ _. ⊥)
    (AreFirstBy session self.config.now list.profile.now list.mode list.settings.now self.paper old)
    (λ whole. Appends old whole (page_text self.paper.colour (list_head_runs self.paper.columns asked)))
    (WritesPage session self.config.now list.profile.now list.mode list.settings.now self.head.now self.paper old)
    old new fault (λ _ none. none) (λ _ none. absurd none)
    (λ whole opening. inl (first_here session self.config.now list.profile.now list.mode list.settings.now c.args.on.now
    chain asked self.head.now self.paper old whole whole c.requires.is_profile c.requires.is_chain c.in_ok-asked.ensures
    opening
    (none_first (basis_of session chain) list.mode profile list.settings.now self.head.now self.paper
    (list_tests (list_view session.tests)) whole whole refl)))
    c.in_err-write_head.ensures.err)

pub returns-clause-ok : goal.returns-clause-ok
returns-clause-ok g c =
    let self = c.args.self.now in
    let list = self.list in
    on_ok_weaker c.write_rest.result
    (page_here self.session.now self.config.now list.profile.now list.mode list.settings.now c.args.on.now
    (borrowed_view c.args.chain.now) c.in_ok-asked.asked self.head.now self.paper (g.O.Write.contents c.args.out.now)
    (g.O.Write.contents c.write_head.new.out) (g.O.Write.contents c.write_rest.new.out) c.requires.is_profile
    c.requires.is_chain c.in_ok-asked.ensures c.in_ok-write_head.ensures.ok)
    c.write_rest.ensures.ok

pub returns-clause-err : goal.returns-clause-err
returns-clause-err g c =
    let self = c.args.self.now in
    let session = self.session.now in
    let list = self.list in
    let chain = borrowed_view c.args.chain.now in
    let asked = c.in_ok-asked.asked in
    let profile = profile_meaning (marks_view names_of) c.args.on.now in
    let tests = list_tests (list_view session.tests) in
    let old = g.O.Write.contents c.args.out.now in
    let mid = g.O.Write.contents c.write_head.new.out in
    let new = g.O.Write.contents c.write_rest.new.out in
    let opening = c.in_ok-write_head.ensures.ok in
    let First : Option (List ℕ) → Type 0 =
    AreFirstWritten (basis_of session chain) filter_holds list.mode profile list.settings.now tests self.head.now
    self.paper mid in
    let Rest : Option (List ℕ) → Type 0 =
    WritesRest session chain profile list.mode list.settings.now self.head.now self.paper mid in
    let Begun : Option (List ℕ) → Type 0 =
    AreFirstBy session self.config.now list.profile.now list.mode list.settings.now self.paper old in
    let Page : Option (List ℕ) → Type 0 =
    WritesPage session self.config.now list.profile.now list.mode list.settings.now self.head.now self.paper old in
    let here : (whole : Option (List ℕ)) → First whole → Begun whole =
    λ whole. first_here session self.config.now list.profile.now list.mode list.settings.now c.args.on.now chain asked
    self.head.now self.paper old mid whole c.requires.is_profile c.requires.is_chain c.in_ok-asked.ensures opening in
    let none : (whole : Option (List ℕ)) → whole ≡ mid → Begun whole =
    λ whole same. here whole (none_first (basis_of session chain) list.mode profile list.settings.now self.head.now
    self.paper tests mid whole (sym same)) in
    let page : (whole : Option (List ℕ)) → Rest whole → Page whole =
    λ whole. page_here session self.config.now list.profile.now list.mode list.settings.now c.args.on.now chain asked
    self.head.now self.paper old mid whole c.requires.is_profile c.requires.is_chain c.in_ok-asked.ensures opening in
    IfErr-weaker c.write_rest.result _ _
    (λ fault. stops_behind First Begun Rest Page old mid new fault
    (page_text self.paper.colour (list_head_runs self.paper.columns asked), opening)
    (first_or_none First Begun mid here none) (λ whole rest. inr (page whole rest)))
    c.write_rest.ensures.err
