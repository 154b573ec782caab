use Rattle.std.proofs.Common.{◌∙◌, List, Option, Some, ap, codes, map, refl, string_bytes, subst, sym}
use Rattle.filter_language.specs.Filtersets.{marks_view}
use Rattle.filter_engine.specs.Compiling.{names_of}
use Rattle.filter_engine.specs.Engine.{filter_holds, filter_holds_binary}
use Rattle.nextest_engines.specs.Engines.{Binary, Test, binary_view, test_view}
use Rattle.filter_inputs.specs.Lists.ListView.{list_view}
use Rattle.filter_inputs.specs.Lists.Lists.{all_binaries}
use Rattle.nextest_inheritance.specs.View.{borrowed_view}
use Rattle.nextest_settings.specs.Profiles.Meaning.{profile_meaning}
use Rattle.nextest_sources.specs.WarningsView.{warnings_view}
use Rattle.nextest_tables.specs.FileTexts.{names_in}
use Rattle.rinqebo_objects.specs.Objects.{AreObjectsOf}
use Rattle.rinqebo_objects.specs.Scripts.{directories_view}
use Rattle.rinqebo_objects.specs.Used.{Used, used_in}
use Rattle.rinqebo_objects.specs.Uses.{AreUsesIn}
use Rattle.rinqebo_objects.specs.WarningObjects.{warnings_data}
use Rattle.rinqebo_results.proofs.Listing.{basis_here}
use Rattle.rinqebo_results.specs.Listed.{directories_for}
use Rattle.rinqebo_object_origins.specs.ObjectOrigins.{AreObjectOrigins}
use Rattle.serde_json.specs.Find.{get}
use Rattle.serde_json.specs.View.{view}
use Rattle.rinqebo_results.proofs.list_objects.objects_of_list.Goals as goal

pub returns-clause-objects : goal.returns-clause-objects
returns-clause-objects c = λ are_uses.
    let facts = c.args.profile.now.facts in
    let filter = c.args.profile.now.default_filter.text in
    let profile = profile_meaning (marks_view names_of) c.args.profile.now in
    let session = c.args.session.now in
    let known = names_in c.args.config.now.config.profiles in
    let around = c.surroundings-around.result in
    let warnings = warnings_view around.warnings.now in
    let value = view c.in_ok-objects.objects.value in
    let origins = c.in_ok-origins.origins in
    let tests = map test_view c.deref-3.result.now in
    let binaries = map binary_view c.deref-4.result.now in
    let list = list_view session.tests in
    let used : List Test → List Binary → Option Used =
    λ ts bs. used_in filter_holds filter_holds_binary profile (Some (record { tests = ts; binaries = bs })) in
    let joined = directories_for (string_bytes session.gathered.now.paths.workspace_root) (list_view session.tests) in
    let same_tests = ap (map test_view) c.deref-3.ensures.value ∙ c.in_ok-tests.ensures in
    let uses_known = subst (λ ts. AreUsesIn filter_holds profile ts c.args.uses.now) (sym same_tests) are_uses in
    record {
      warnings = warnings;
      origins = origins;
      are_origins = subst (λ basis. AreObjectOrigins basis profile origins)
          (basis_here session _ c.deref.result.now (borrowed_view c.args.chain.now) refl c.deref.ensures.value)
          c.in_ok-origins.ensures;
      are = subst (λ ts. AreObjectsOf facts filter known warnings joined (used ts (all_binaries list)) (Some origins) value)
          same_tests
          (subst (λ bs. AreObjectsOf facts filter known warnings joined (used tests bs) (Some origins) value)
          (ap (map binary_view) c.deref-4.ensures.value ∙ c.in_ok-binaries.ensures)
          (subst (λ names. AreObjectsOf facts filter names warnings joined (used tests binaries) (Some origins) value)
          (ap (map string_bytes) (c.surroundings-around.ensures.profiles ∙ c.deref-2.ensures.value)
          ∙ c.in_ok-names.ensures)
          (subst (λ ds. AreObjectsOf facts filter (map string_bytes around.profiles.now) warnings ds
          (used tests binaries) (Some origins) value)
          (ap directories_view c.surroundings-around.ensures.directories ∙ c.directories_of.ensures)
          (subst (λ os. AreObjectsOf facts filter (map string_bytes around.profiles.now) warnings
          (directories_view around.directories) (used tests binaries) os value)
          c.surroundings-around.ensures.origins (c.in_ok-objects.ensures.objects uses_known)))));
    }

pub returns-clause-findings : goal.returns-clause-findings
returns-clause-findings c = λ are_uses.
    let profile = profile_meaning (marks_view names_of) c.args.profile.now in
    let uses_known = subst (λ ts. AreUsesIn filter_holds profile ts c.args.uses.now)
    (sym (ap (map test_view) c.deref-3.ensures.value ∙ c.in_ok-tests.ensures)) are_uses in
    ap (get (codes "findings")) (c.in_ok-objects.ensures.objects uses_known).same
    ∙ ap (λ warnings. Some (warnings_data (warnings_view warnings))) c.surroundings-around.ensures.warnings
