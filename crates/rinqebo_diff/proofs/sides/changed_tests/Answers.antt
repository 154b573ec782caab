use Rattle.std.proofs.Common.{◌∙◌, Bool, IfOk, List, ap}
use Rattle.filter_engine.specs.Compiling.{names_of}
use Rattle.filter_engine.specs.Engine.{filter_holds}
use Rattle.filter_inputs.specs.declared.lists.list.ListedBinary.{ListedBinary}
use Rattle.filter_language.specs.Filtersets.{marks_view}
use Rattle.nextest_inheritance.specs.View.{borrowed_view}
use Rattle.nextest_settings.specs.Profiles.Meaning.{profile_meaning}
use Rattle.rinqebo_changes.specs.Changes.{is_change}
use Rattle.rinqebo_changes.specs.Sides.Matched.{tests_of}
use Rattle.rinqebo_request.specs.declared.request.RequestedSettings.{RequestedSettings}
use Rattle.rinqebo_origins.specs.TestOrigins.{Basis}
use Rattle.rinqebo_results.proofs.Listing.{basis_here}
use Rattle.rinqebo_results.specs.ListedBy.{basis_of}
use Rattle.rinqebo_diff.specs.Asked.{compares_runs}
use Rattle.rinqebo_diff.specs.Compared.{AreTestsCompared, ReportsBy}
use Rattle.rinqebo_diff.proofs.Comparing.{by_names, renamed}
use Rattle.rinqebo_diff.proofs.sides.changed_tests.Goals as goal

pub returns : goal.returns
returns g c =
    let request = c.args.request.now in
    let from = c.args.from.now.session in
    let to = c.args.to.now.session in
    let left = c.args.left.now in
    let right = c.args.right.now in
    let asked = request.compared.asked in
    let Compared : RequestedSettings → RequestedSettings → Bool → Basis → Basis → List ListedBinary → List ListedBinary
    → Type 0 = λ one two runs a b froms tos. IfOk c.compared.result
    (λ compared. AreTestsCompared
    (ReportsBy filter_holds a (profile_meaning (marks_view names_of) left.profile) request.from.mode one)
    (ReportsBy filter_holds b (profile_meaning (marks_view names_of) right.profile) request.to.mode two)
    (is_change c.args.sources.from.now c.args.sources.to.now request.with_origins) runs (tests_of froms)
    (tests_of tos) compared.changed.items compared.count) in
    let left_basis = basis_of from (borrowed_view left.chain.items) in
    let right_basis = basis_of to (borrowed_view right.chain.items) in
    by_names _ _ _ _ c.deref-5.ensures.value c.deref-6.ensures.value
    (Compared asked asked (compares_runs asked) left_basis right_basis)
    (renamed (λ one two runs a b. Compared one two runs a b c.deref-5.result.now c.deref-6.result.now)
    c.asked.result.now c.asked-2.result.now asked c.with_runs.result (compares_runs asked) c.new-from_origins.result
    left_basis c.new-to_origins.result right_basis c.asked.ensures c.asked-2.ensures c.with_runs.ensures
    (basis_here from c.new-from_origins.result _ (borrowed_view c.deref-2.result.now) c.new-from_origins.ensures
    c.deref.ensures.value ∙ ap (λ names. basis_of from (borrowed_view names)) c.deref-2.ensures.value)
    (basis_here to c.new-to_origins.result _ (borrowed_view c.deref-4.result.now) c.new-to_origins.ensures
    c.deref-3.ensures.value ∙ ap (λ names. basis_of to (borrowed_view names)) c.deref-4.ensures.value)
    c.compared.ensures)
