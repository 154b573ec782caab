-- What is reported of the tests of a list and of the rules that hold for none.
use Rattle.std.proofs.Common.{◌≡◌, ◌∙◌, List, [], ◌∷◌, ◌++◌, Bool, Bor, map, IfSome, Option, ap, refl, string_bytes, subst, sym}
use Rattle.std.specs.List.{AllZip}
use Rattle.filter_language.specs.Filtersets.{marks_view}
use Rattle.filter_language.specs.declared.filterset.Filterset.{Filterset}
use Rattle.nextest_elements.specs.declared.run_mode.NextestRunMode.{NextestRunMode}
use Rattle.nextest_engines.specs.declared.queries.BuildPlatforms.{BuildPlatforms}
use Rattle.filter_engine.specs.Compiling.{names_of}
use Rattle.filter_engine.specs.Engine.{Filter}
use Rattle.filter_engine.specs.declared.compiling.FieldMatcher.{FieldMatcher}
use Rattle.nextest_inheritance.specs.Parents.{parents_in}
use Rattle.nextest_load.specs.Config.{ConfigModel, config_parents}
use Rattle.nextest_load.specs.Load.{Loaded}
use Rattle.nextest_settings.proofs.MeaningOfTexts.{profile_means}
use Rattle.nextest_settings.specs.Profiles.Meaning.{configured_meaning, profile_meaning}
use Rattle.nextest_settings.specs.Profiles.Profiles.{IsChainAndDefault}
use Rattle.nextest_rules.specs.Rules.{OverrideUse, RuleId, ScriptRuleUse}
use Rattle.nextest_rules.specs.View.{id_view, script_rule_id_view}
use Rattle.nextest_rules.specs.declared.overrides.OverrideId.{OverrideId}
use Rattle.nextest_rules.specs.declared.overrides.ScriptRuleId.{ScriptRuleId}
use Rattle.nextest_settings.specs.Deciding.{QueryContext}
use Rattle.nextest_settings.specs.Platforms.{EvaluatedRule}
use Rattle.nextest_settings.specs.Profile.{Configured, EvaluatableModel}
use Rattle.nextest_settings.specs.Queries.{query_in}
use Rattle.nextest_tables.specs.FileTexts.{names_in, IsIn}
use Rattle.nextest_tables.specs.Written.{Name}
use Rattle.rinqebo_origins.specs.TestOrigins.{Basis}
use Rattle.rinqebo_rules.specs.Rows.{AreTestsReported}
use Rattle.rinqebo_rules.specs.Scripts.{AreScriptsReported}
use Rattle.rinqebo_rules.specs.Unused.{unused_among, AreUnusedIn}
use Rattle.rinqebo_rules.specs.declared.unused.UnusedRules.{UnusedRules}
use Rattle.rinqebo_report.specs.declared.exact_value.ExactValue.{ExactValue}
use Rattle.rinqebo_report.specs.declared.origin.Origin.{Origin}
use Rattle.rinqebo_report.specs.declared.report.Content.{Content}
use Rattle.rinqebo_report.specs.declared.report.ListScripts.{ListScripts}
use Rattle.rinqebo_report.specs.declared.report.Report.{Report}
use Rattle.rinqebo_report.specs.declared.report.TestRows.{TestRows}
use Rattle.rinqebo_request.specs.declared.request.RequestedSettings.{RequestedSettings}
use Rattle.platform_language.specs.Expressions.{Spec, spec_view}
use Rattle.platform_language.specs.declared.expression.TargetSpec.{TargetSpec}
use Rattle.filter_inputs.specs.Lists.ListView.{list_view}
use Rattle.filter_inputs.specs.Lists.Lists.{all_binaries, all_tests, list_tests}
use Rattle.rinqebo_load.specs.Accepted.{AreAccepted}
use Rattle.rinqebo_rules.specs.Conditions.{is_met_by}
use Rattle.rinqebo_results.specs.Listed.{IsProfileOn, unused_places, AreObjectsListed, AreTestsOf, IfListed, ReportsTests}
use Rattle.rinqebo_results.specs.ListedBy.{basis_of, read_by, listed_by, places_of}
use Rattle.rinqebo_results.specs.Requested.{IsRequestedIn}
use Rattle.rinqebo_results.proofs.Requests.{requested_meant}
use Rattle.rinqebo_request.specs.declared.files.layers.Layer.{Layer as FileLayer}
use Rattle.rinqebo_origins.specs.Origins.{IsOriginOf}
use Rattle.rinqebo_origins.specs.RulePlaces.{Place, id_place, script_place}
use Rattle.rinqebo_load.specs.Sessions.{files_view, readings, IsLoadedFrom}
use Rattle.rinqebo_load.specs.declared.session.Session.{Session}
use Rattle.serde_json.specs.View.{view}

-- what holds of each and what is reported of it holds of what is made of each
pub zip_mapped : {A B C : Type 0} (f : A → B) (R : B → C → Type 0) (xs : List A) (ys : List C)
    → AllZip (λ x. R (f x)) xs ys → AllZip R (map f xs) ys
zip_mapped f R [] [] all = tt
zip_mapped f R [] (y ∷ ys) all = absurd all
zip_mapped f R (x ∷ xs) [] all = absurd all
zip_mapped f R (x ∷ xs) (y ∷ ys) all = (all.0, zip_mapped f R xs ys all.1)

-- origins are reported in the same layers by another name
pub reported_in : (files layers : List FileLayer) (places : List Place) (origins : List Origin) → files ≡ layers
    → AllZip (λ place. IsOriginOf files place []) places origins
    → AllZip (λ place. IsOriginOf layers place []) places origins
reported_in files layers places origins same told =
    subst (λ fs. AllZip (λ place. IsOriginOf fs place []) places origins) same told

both : {A B X : Type 0} (g : B → X) (f : A → B) (xs : List A) → map g (map f xs) ≡ map (λ a. g (f a)) xs
both g f [] = refl
both g f (x ∷ xs) = ap (λ rest. g (f x) ∷ rest) (both g f xs)

-- the rules of a profile are at the places of their ids
pub unused_stand : {M : Type 0} (tests : List (QueryContext M)) (profile : EvaluatableModel M) (ids : UnusedRules)
    → AreUnusedIn tests profile ids → places_of ids ≡ unused_places tests profile
unused_stand {M} tests profile ids are =
    let override_id : Bor OverrideId → RuleId = λ id. id_view id.now in
    let script_id : Bor ScriptRuleId → RuleId = λ id. script_rule_id_view id.now in
    let of_override : EvaluatedRule M (OverrideUse M) → RuleId = λ rule. rule.writes.id in
    let of_script : EvaluatedRule M ScriptRuleUse → RuleId = λ rule. rule.writes.id in
    let overrides = sym (both id_place override_id ids.overrides.items) ∙ ap (map id_place) are.overrides
    ∙ both id_place of_override (unused_among tests profile.overrides) in
    let scripts = sym (both script_place script_id ids.script_rules.items) ∙ ap (map script_place) are.script_rules
    ∙ both script_place of_script (unused_among tests profile.script_rules) in
    λ i. overrides i ++ scripts i

module _ {E N M K P : Type 0} (f : E → M) (g : N → K) (meets : K → P → Option Bool)
    (platforms : BuildPlatforms P) where
  -- whether a spec that was read is met
  abbrev pub read_meets : N → P → Option Bool
  read_meets spec platform = meets (g spec) platform

  -- what the profile of a name means
  pub given_means : (c : Configured E N) (name : Name) (on : EvaluatableModel E)
      → IsProfileOn read_meets platforms c name on
      → IsProfileOn meets platforms (configured_meaning f g c) name (profile_meaning f on)
  given_means c name on is = record {
    chain = is.chain;
    is_chain = is.is_chain;
    is_profile = ap (profile_meaning f) is.is_profile ∙ profile_means f g meets platforms c name is.chain;
  }

-- what origins are looked up in
abbrev based : List Name → List FileLayer → Basis
based chain layers = record { layers = layers; chain = chain }

-- origins are looked up in the layers of a session
pub basis_here : (session : Session) (basis : Basis) (layers : List FileLayer) (chain : List Name)
    → basis ≡ record { layers = layers; chain = chain } → layers ≡ session.layers.items
    → basis ≡ basis_of session chain
basis_here session basis layers chain is same = is ∙ ap (based chain) same

-- tests, rules, scripts and objects are reported by a configuration that was loaded
pub listed_here : (session : Session) (loaded : Loaded (Filterset FieldMatcher) TargetSpec) (name : Name)
    (mode : NextestRunMode) (asked : RequestedSettings) (on : EvaluatableModel (Filterset FieldMatcher))
    (names chain : List Name) (ids : UnusedRules) (tests : List TestRows) (unused : List Origin) (scripts : ListScripts)
    (objects : Option ExactValue)
    → IsProfileOn is_met_by session.engines.platforms (read_by session loaded) name on
    → IsChainAndDefault (parents_in (config_parents loaded.config)) name names → chain ≡ names
    → AreTestsReported (basis_of session chain) (readings session.engines.filters).matches_test mode
    (profile_meaning (marks_view names_of) on) asked (list_tests (list_view session.tests)) tests
    → AreUnusedIn (map (query_in (readings session.engines.filters).matches_test
    (profile_meaning (marks_view names_of) on)) (all_tests (list_view session.tests)))
    (profile_meaning (marks_view names_of) on) ids
    → AllZip (λ place. IsOriginOf session.layers.items place []) (places_of ids) unused
    → AreScriptsReported (readings session.engines.filters).matches_test (readings session.engines.filters).matches_binary
    (profile_meaning (marks_view names_of) on) (all_tests (list_view session.tests))
    (all_binaries (list_view session.tests)) scripts
    → IfSome objects (λ exact. AreObjectsListed (readings session.engines.filters).matches_test
    (readings session.engines.filters).matches_binary (basis_of session names)
    (profile_meaning (marks_view names_of) on) (string_bytes session.gathered.now.paths.workspace_root)
    (list_view session.tests) (names_in loaded.config.profiles) (view exact.value))
    → listed_by session loaded name mode asked tests unused scripts objects
listed_here session loaded name mode asked on names chain ids tests unused scripts objects is ends same told are origins
    scripted beside =
    let engines = readings session.engines.filters in
    let profile = profile_meaning (marks_view names_of) on in
    record {
      profile = profile;
      is_profile = given_means (marks_view names_of) spec_view engines.meets session.engines.platforms
          (read_by session loaded) name on is;
      chain = names;
      is_chain = ends;
      tests_reported = subst (λ ns. AreTestsReported (basis_of session ns) engines.matches_test mode profile asked
          (list_tests (list_view session.tests)) tests) same told;
      unused_reported = subst (λ places. AllZip (λ place. IsOriginOf session.layers.items place []) places unused)
          (unused_stand (map (query_in engines.matches_test profile) (all_tests (list_view session.tests))) profile ids
          are)
          origins;
      scripts_reported = scripted;
      objects_reported = beside;
    }

-- a report tells the tests of a list by what was loaded
pub tells_tests : (session : Session) (profile : Name) (mode : NextestRunMode) (asked : RequestedSettings)
    (report : Report) (content : Content) (loaded : Loaded (Filterset FieldMatcher) TargetSpec) → AreAccepted session
    → IsLoadedFrom (readings session.engines.filters) (files_view session.gathered.now) loaded
    → IsIn (names_in loaded.config.profiles) profile → report.content ≡ content
    → IfListed content (listed_by session loaded profile mode asked)
    → IsRequestedIn session (parents_in (config_parents loaded.config)) profile mode content
    → ReportsTests session profile mode asked report
tells_tests session profile mode asked report content loaded accepted from there same is requested =
    let engines = readings session.engines.filters in
    let Listed : Content → ConfigModel Filter Spec → Type 0 =
    λ content config. IfListed content (AreTestsOf engines.meets engines.matches_test engines.matches_binary
    session.engines.platforms (record {
      root = string_bytes session.gathered.now.paths.workspace_root;
      config = config;
      scripts = loaded.scripts;
    }) profile mode asked session.layers.items (list_view session.tests)) in
    record {
      acceptance = accepted;
      scripts = loaded.scripts;
      are_scripts = from.scripts;
      known = subst (λ config. IsIn (names_in config.profiles) profile) from.means there;
      told = subst (Listed report.content) from.means
          (subst (λ content. IfListed content (listed_by session loaded profile mode asked)) (sym same) is);
      requested = requested_meant session profile mode report.content content loaded from same requested;
    }
