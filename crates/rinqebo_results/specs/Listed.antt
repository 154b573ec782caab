-- The tests of a list and the rules that hold for none of them, as a report lists them.
use Rattle.std.specs.Prelude.{◌≡◌, ◌++◌, [], ℕ, Bool, List, codes, map, option_map, Option, Some, IfSome}
use Rattle.std.specs.List.{AllZip}
use Rattle.nextest_elements.specs.declared.run_mode.NextestRunMode.{NextestRunMode}
use Rattle.nextest_engines.specs.Engines.{Test}
use Rattle.nextest_engines.specs.declared.queries.BuildPlatforms.{BuildPlatforms}
use Rattle.nextest_inheritance.specs.Parents.{parents_in, IsChain}
use Rattle.nextest_load.specs.Closed.{BinaryMatch}
use Rattle.nextest_load.specs.Config.{ScriptTables, config_parents}
use Rattle.nextest_load.specs.Scripts.{AreScriptsOf}
use Rattle.nextest_settings.specs.Profiles.Profiles.{IsChainAndDefault}
use Rattle.nextest_settings.specs.Deciding.{QueryContext}
use Rattle.nextest_settings.specs.Profile.{Configured, EvaluatableModel, profile_of, profile_on}
use Rattle.nextest_settings.specs.Queries.{query_in}
use Rattle.nextest_sources.specs.Inputs.{sources_in}
use Rattle.nextest_sources.specs.Warnings.{Warning}
use Rattle.nextest_tables.specs.FileTexts.{names_in, IsIn}
use Rattle.nextest_tables.specs.Written.{Name}
use Rattle.rinqebo_request.specs.declared.files.layers.Layer.{Layer}
use Rattle.rinqebo_objects.specs.Objects.{AreObjectsOf}
use Rattle.rinqebo_objects.specs.Scripts.{Directories}
use Rattle.rinqebo_objects.specs.Used.{Listed, used_in}
use Rattle.rinqebo_objects.specs.declared.origins.ObjectOrigins.{ObjectOrigins}
use Rattle.rinqebo_objects.specs.WarningObjects.{warnings_data}
use Rattle.rinqebo_rules.specs.Rows.{AreTestsReported}
use Rattle.rinqebo_rules.specs.Scripts.{AreScriptsReported}
use Rattle.rinqebo_rules.specs.Unused.{unused_among}
use Rattle.rinqebo_report.specs.declared.exact_value.ExactValue.{ExactValue}
use Rattle.rinqebo_report.specs.declared.origin.Origin.{Origin}
use Rattle.rinqebo_report.specs.declared.report.Content.{Content}
use Rattle.rinqebo_report.specs.declared.report.Content.TheVariants as contents
use Rattle.rinqebo_report.specs.declared.report.ListScripts.{ListScripts}
use Rattle.rinqebo_report.specs.declared.report.Report.{Report}
use Rattle.rinqebo_report.specs.declared.report.TestRows.{TestRows}
use Rattle.rinqebo_request.specs.declared.request.RequestedSettings.{RequestedSettings}
use Rattle.filter_inputs.specs.Lists.ListView.{list_view}
use Rattle.filter_inputs.specs.Lists.Lists.{all_binaries, all_tests, list_tests, TestList}
use Rattle.rinqebo_load.specs.Accepted.{AreAccepted}
use Rattle.rinqebo_load.specs.Meant.{config_meant}
use Rattle.rinqebo_origins.specs.Origins.{IsOriginOf}
use Rattle.rinqebo_origins.specs.RulePlaces.{Place, id_place, script_place}
use Rattle.rinqebo_origins.specs.TestOrigins.{Basis}
use Rattle.rinqebo_load.specs.Sessions.{files_view, readings}
use Rattle.rinqebo_object_origins.specs.ObjectOrigins.{AreObjectOrigins}
use Rattle.rinqebo_results.specs.Requested.{IsRequestedIn}
use Rattle.rinqebo_results.specs.ReportsReasons.{configured_by}
use Rattle.rinqebo_load.specs.declared.session.Session.{Session}
use Rattle.serde_json.specs.Data.{Data}
use Rattle.serde_json.specs.Find.{get}
use Rattle.serde_json.specs.View.{view}

-- A profile on the platforms of a build is that of a name: it is the one of the name's chain.
pub record IsProfileOn {M K P : Type 0} (meets : K → P → Option Bool) (platforms : BuildPlatforms P)
    (configured : Configured M K) (name : Name) (profile : EvaluatableModel M) : Type 0 where
  pub chain : List Name
  pub is_chain : IsChain (parents_in (config_parents configured.config)) name chain
  pub is_profile : profile ≡ profile_on meets platforms (profile_of configured name chain)

-- The places of the rules of a profile that hold for none of the tests: the overrides in order, and
-- then the script rules in order.
abbrev pub unused_places : {M : Type 0} → List (QueryContext M) → EvaluatableModel M → List Place
unused_places tests profile =
    map (λ rule. id_place rule.writes.id) (unused_among tests profile.overrides)
    ++ map (λ rule. script_place rule.writes.id) (unused_among tests profile.script_rules)

-- The origins are those of the rules of a profile that hold for none of the tests, and of no
-- others, in the order of the rules.
abbrev pub AreUnused : {M : Type 0} → List Layer → List (QueryContext M) → EvaluatableModel M
    → List Origin → Type 0
AreUnused layers tests profile unused =
    AllZip (λ place. IsOriginOf layers place []) (unused_places tests profile) unused

-- the directories that programs are relative to: the root of the workspace, and the target directory
-- of a list, if it has one
abbrev pub directories_for : List ℕ → TestList → Option Directories
directories_for root list = option_map (λ target. record {
  root = root;
  target = target;
}) list.target_directory

-- the tests and the binaries of a list
abbrev pub listed_in : TestList → Listed
listed_in list = record { tests = all_tests list; binaries = all_binaries list }

-- A value is the objects of a profile, among profiles of these names, with some warnings
-- (`HasObjects` says which), with what a list uses of the scripts, and with where the values of the
-- run and the groups come from. Its programs are joined to the root and to the target directory of
-- the list, if that has one.
pub record AreObjectsListed {M : Type 0} (matches : M → Test → M → Bool)
    (matches_binary : BinaryMatch M) (basis : Basis) (profile : EvaluatableModel M) (root : List ℕ)
    (list : TestList) (profiles : List Name) (value : Data) : Type 0 where
  pub warnings : List Warning
  pub origins : ObjectOrigins
  pub are_origins : AreObjectOrigins basis profile origins
  pub are : AreObjectsOf profile.facts profile.default_filter.text profiles warnings
      (directories_for root list)
      (used_in matches matches_binary profile (Some (listed_in list))) (Some origins) value

-- A report lists tests as the profile of a name gives them settings on the platforms of a build,
-- with the origins of these in the layers of the files and in the chain of the profile, the rules
-- of the profile that hold for none, and the scripts that it gives to the list. Where it has
-- objects, they are those of the profile, with origins in the same layers and chain.
pub record AreTestsOf {M K P : Type 0} (meets : K → P → Option Bool) (matches : M → Test → M → Bool)
    (matches_binary : BinaryMatch M) (platforms : BuildPlatforms P) (configured : Configured M K)
    (name : Name) (mode : NextestRunMode) (asked : RequestedSettings) (layers : List Layer)
    (list : TestList) (tests : List TestRows) (unused : List Origin) (scripts : ListScripts)
    (objects : Option ExactValue) : Type 0 where
  pub profile : EvaluatableModel M
  pub is_profile : IsProfileOn meets platforms configured name profile
  pub chain : List Name
  pub is_chain : IsChainAndDefault (parents_in (config_parents configured.config)) name chain
  pub tests_reported : AreTestsReported (record { layers = layers; chain = chain }) matches mode
      profile asked (list_tests list) tests
  pub unused_reported : AreUnused layers (map (query_in matches profile) (all_tests list))
      profile unused
  pub scripts_reported : AreScriptsReported matches matches_binary profile (all_tests list)
      (all_binaries list) scripts
  pub objects_reported : IfSome objects (λ exact. AreObjectsListed matches matches_binary
      (record { layers = layers; chain = chain }) profile configured.root list
      (names_in configured.config.profiles) (view exact.value))

-- a fact of the tests, of the rules, of the scripts and of the objects that a report lists
abbrev pub IfListed : Content
    → (List TestRows → List Origin → ListScripts → Option ExactValue → Type 0) → Type 0
IfListed (contents.List asked tests unused scripts objects) P =
    P tests.items unused.items scripts objects
IfListed _ P = ⊥

-- the findings of objects are warnings
abbrev pub FindsWarnings : List Warning → Data → Type 0
FindsWarnings warnings value = get (codes "findings") value ≡ Some (warnings_data warnings)

-- a report lists tests beside objects, whose findings are warnings
abbrev pub HasObjects : List Warning → Content → Type 0
HasObjects warnings (contents.List asked tests unused scripts (Some objects)) =
    FindsWarnings warnings (view objects.value)
HasObjects warnings _ = ⊥

-- A report lists the tests of a list in a profile, by what the files mean.
pub record ReportsTests (session : Session) (profile : Name) (mode : NextestRunMode)
    (asked : RequestedSettings) (report : Report) : Type 0 where
  -- Every written rule holds of the files.
  pub acceptance : AreAccepted session
  -- Their scripts are those that they define.
  pub scripts : ScriptTables
  pub are_scripts : AreScriptsOf (sources_in (files_view session.gathered.now)) scripts
  -- They have the profile.
  pub known : IsIn (names_in (configured_by session scripts).config.profiles) profile
  -- The report lists each test of the list in order, with the values that the profile gives it and
  -- with their origins, the rules of the profile that hold for none, the setup scripts that the
  -- tests enable, and what wraps the binaries of the list.
  pub told : IfListed report.content
      (AreTestsOf (readings session.engines.filters).meets
      (readings session.engines.filters).matches_test
      (readings session.engines.filters).matches_binary session.engines.platforms
      (configured_by session scripts) profile mode asked session.layers.items
      (list_view session.tests))
  -- It says what the user requests.
  pub requested : IsRequestedIn session (parents_in (config_parents (config_meant session))) profile
      mode report.content
