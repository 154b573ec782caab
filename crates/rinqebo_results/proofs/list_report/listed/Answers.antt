use Rattle.std.proofs.Common.{Some, ap, string_bytes, subst, sym}
use Rattle.filter_language.specs.Filtersets.{marks_view}
use Rattle.filter_engine.specs.Compiling.{names_of}
use Rattle.filter_engine.specs.Engine.{filter_holds, filter_holds_binary}
use Rattle.filter_inputs.specs.Lists.ListView.{list_view}
use Rattle.filter_inputs.specs.Lists.Lists.{all_tests}
use Rattle.nextest_inheritance.specs.View.{borrowed_view}
use Rattle.nextest_settings.specs.Profiles.Meaning.{profile_meaning}
use Rattle.nextest_tables.specs.FileTexts.{names_in}
use Rattle.rinqebo_objects.specs.Uses.{AreUsesIn}
use Rattle.rinqebo_results.proofs.Listing.{listed_here, reported_in}
use Rattle.rinqebo_results.proofs.Requests.{requested_on}
use Rattle.rinqebo_results.specs.Listed.{AreObjectsListed}
use Rattle.rinqebo_results.specs.ListedBy.{basis_of}
use Rattle.serde_json.specs.View.{view}
use Rattle.rinqebo_results.proofs.list_report.listed.Goals as goal

pub profile_on-requires : goal.profile_on-requires
profile_on-requires g c = c.requires

pub returns-clause-told : goal.returns-clause-told
returns-clause-told g c =
    let session = c.args.session.now in
    let profile = profile_meaning (marks_view names_of) c.in_ok-on.on in
    let uses = subst (AreUsesIn filter_holds profile (all_tests (list_view session.tests))) (sym c.deref-4.ensures.value)
    c.in_ok-rows.ensures.uses in
    let objects = subst (λ names. AreObjectsListed filter_holds filter_holds_binary (basis_of session names)
    profile (string_bytes session.gathered.now.paths.workspace_root)
    (list_view session.tests) (names_in c.args.config.now.config.profiles) (view c.in_ok-objects.objects.value))
    (ap borrowed_view c.deref-3.ensures.value) (c.in_ok-objects.ensures.objects uses) in
    listed_here c.args.session.now c.args.config.now c.args.profile.now c.args.mode c.args.asked.now
    c.in_ok-on.on (borrowed_view c.in_ok-chain.chain.items) (borrowed_view c.deref-2.result.now) _ _ _ _
    (Some c.in_ok-objects.objects)
    c.in_ok-on.ensures (c.in_ok-chain.ensures c.requires) (ap borrowed_view c.deref-2.ensures.value)
    c.in_ok-rows.ensures.tests c.in_ok-rows.ensures.unused
    (reported_in _ _ _ _ c.deref-5.ensures.value c.in_ok-unused_origins.ensures)
    (c.in_ok-scripts_by_used.ensures c.args.mode c.in_ok-rows.ensures.used)
    objects

pub returns-clause-requested : goal.returns-clause-requested
returns-clause-requested g c = record {
  chain = borrowed_view c.in_ok-chain.chain.items;
  is_chain = c.in_ok-chain.ensures c.requires;
  requested = requested_on c.args.session.now c.args.profile.now c.args.mode _ _ _
      (ap borrowed_view c.deref.ensures.value) c.in_ok-requested.ensures;
}

pub returns-clause-objects : goal.returns-clause-objects
returns-clause-objects g c =
    let profile = profile_meaning (marks_view names_of) c.in_ok-on.on in
    c.in_ok-objects.ensures.findings
    (subst (AreUsesIn filter_holds profile (all_tests (list_view c.args.session.now.tests))) (sym c.deref-4.ensures.value)
    c.in_ok-rows.ensures.uses)
