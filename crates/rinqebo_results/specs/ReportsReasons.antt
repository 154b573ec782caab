-- The rules of a setting, as a report lists them, by what the files mean.
use Rattle.std.specs.Prelude.{◌≡◌, ℕ, List, [], ◌∷◌, ◌++◌, All, Bool, Option, option_map, string_bytes}
use Rattle.nextest_engines.specs.Engines.{Test}
use Rattle.nextest_engines.specs.declared.queries.BuildPlatforms.{BuildPlatforms}
use Rattle.filter_engine.specs.Engine.{Filter}
use Rattle.nextest_inheritance.specs.Parents.{parents_in}
use Rattle.nextest_load.specs.Config.{ScriptTables, config_of, config_parents}
use Rattle.nextest_load.specs.Scripts.{AreScriptsOf}
use Rattle.nextest_settings.specs.Profiles.Profiles.{IsChainAndDefault, IsProfileOf}
use Rattle.nextest_settings.specs.Profile.{Configured, EarlyModel, profile_on}
use Rattle.nextest_settings.specs.Queries.{query_in}
use Rattle.nextest_settings.specs.Settings.{fallback_of}
use Rattle.nextest_elements.specs.declared.setting.Setting.{Setting}
use Rattle.nextest_sources.specs.Inputs.{sources_in}
use Rattle.nextest_tables.specs.FileTexts.{names_in, IsIn}
use Rattle.nextest_tables.specs.Written.{Name}
use Rattle.rinqebo_request.specs.declared.files.layers.Layer.{Layer}
use Rattle.rinqebo_report.specs.declared.report.Content.{Content}
use Rattle.rinqebo_report.specs.declared.report.Content.TheVariants as contents
use Rattle.rinqebo_report.specs.declared.report.Report.{Report}
use Rattle.rinqebo_report.specs.declared.report.Rule.{Rule}
use Rattle.rinqebo_report.specs.declared.report.TestId.{TestId}
use Rattle.rinqebo_report.specs.declared.report.Verdict.TheVariants as told
use Rattle.rinqebo_keys.specs.Keys.{key_name, key_table, key_text}
use Rattle.platform_language.specs.Expressions.{Spec}
use Rattle.rinqebo_load.specs.Accepted.{AreAccepted}
use Rattle.rinqebo_load.specs.FoundTests.{found_view}
use Rattle.rinqebo_load.specs.Meant.{config_meant}
use Rattle.rinqebo_results.specs.Requested.{IsRequestedIn}
use Rattle.rinqebo_results.specs.Reasons.{AreRulesReported, HasNoConditions, IsRuleAsWritten}
use Rattle.rinqebo_load.specs.Sessions.{files_view, readings}
use Rattle.rinqebo_origins.specs.Origins.{key_steps}
use Rattle.rinqebo_origins.specs.ProfileOrigins.{AreProfileOrigins}
use Rattle.rinqebo_rules.specs.Rows.{shown_platform}
use Rattle.rinqebo_rules.specs.SettingRules.{rules_for}
use Rattle.rinqebo_load.specs.declared.found_test.FoundTest.{FoundTest}
use Rattle.rinqebo_load.specs.declared.session.Session.{Session}
use Rattle.rinqebo_origins.specs.Reported.{reported_of, value_view}

-- A report lists the rules of a setting for a test: each override of a profile, in order, or for a
-- run wrapper each script rule, with its result on the platforms of a build, and then what counts
-- where none decides, which comes from a chain of profiles. Durations are as a file writes them,
-- where one file alone writes the value.
pub record AreReasons {M K P : Type 0} (layers : List Layer) (chain : List Name)
    (meets : K → P → Option Bool) (matches : M → Test → M → Bool) (platforms : BuildPlatforms P)
    (test : FoundTest) (s : Setting) (profile : EarlyModel M K) (rules : List Rule) : Type 0 where
  pub before : List Rule
  pub fallback : Rule
  pub are : rules ≡ before ++ fallback ∷ []
  pub rules_reported : AreRulesReported layers meets platforms
      (query_in matches (profile_on meets platforms profile) (found_view test).test)
      (rules_for s test.mode profile.overrides profile.script_rules) before
  pub fallback_reported : fallback.verdict ≡ told.Fallback
  pub fallback_value : option_map value_view fallback.value
      ≡ option_map (reported_of s) (fallback_of profile.facts.fields test.mode s)
  pub fallback_origins : AreProfileOrigins layers chain (key_table s test.mode) (key_name s)
      (fallback.origin ∷ fallback.others.items)
  pub fallback_conditions : HasNoConditions fallback
  pub as_written : All (IsRuleAsWritten layers (key_steps (key_table s test.mode) (key_name s)))
      rules

-- A report lists the rules of a setting for a test in the profile of a name. What counts where none
-- decides comes from the chain of the profile.
pub record AreReasonsIn {M K P : Type 0} (layers : List Layer) (meets : K → P → Option Bool)
    (matches : M → Test → M → Bool) (platforms : BuildPlatforms P) (configured : Configured M K)
    (name : Name) (test : FoundTest) (s : Setting) (rules : List Rule) : Type 0 where
  pub profile : EarlyModel M K
  pub is_profile : IsProfileOf configured name profile
  pub chain : List Name
  pub is_chain : IsChainAndDefault (parents_in (config_parents configured.config)) name chain
  pub reasons : AreReasons layers chain meets matches platforms test s profile rules

-- what the files of a session mean, with these scripts
abbrev pub configured_by : Session → ScriptTables → Configured Filter Spec
configured_by session scripts = record {
  root = string_bytes session.gathered.now.paths.workspace_root;
  config = config_of (readings session.engines.filters)
      (sources_in (files_view session.gathered.now));
  scripts = scripts;
}

-- A report names a test, and shows the platform that its binary is built for.
pub record IsTestNamed (test : FoundTest) (named : TestId) : Type 0 where
  pub binary : string_bytes named.binary ≡ string_bytes test.binary
  pub name : string_bytes named.name ≡ string_bytes test.name
  pub platform : named.platform ≡ shown_platform test.platform

-- a fact of the test, the key and the rules of a report, and of whether it shows the test as
-- ignored
abbrev pub IfWhy : Content → (TestId → List ℕ → List Rule → Bool → Type 0) → Type 0
IfWhy (contents.Why asked test key rules is_ignored) P =
    P test (string_bytes key) rules.items is_ignored
IfWhy _ P = ⊥

-- A report lists the rules of a setting for a test in a profile, by what the files mean.
pub record ReportsReasons (session : Session) (profile : List ℕ) (test : FoundTest) (s : Setting)
    (report : Report) : Type 0 where
  -- Every written rule holds of the files.
  pub acceptance : AreAccepted session
  -- Their scripts are those that they define.
  pub scripts : ScriptTables
  pub are_scripts : AreScriptsOf (sources_in (files_view session.gathered.now)) scripts
  -- They have the profile.
  pub known : IsIn (names_in (configured_by session scripts).config.profiles) profile
  -- The report names the test and the key of the setting, and shows the result of each rule of the
  -- profile, and whether the test is ignored.
  pub told : IfWhy report.content (λ named key rules ignored. IsTestNamed test named
      × (key ≡ key_text s test.mode) × (ignored ≡ test.ignored)
      × AreReasonsIn session.layers.items (readings session.engines.filters).meets
      (readings session.engines.filters).matches_test session.engines.platforms
      (configured_by session scripts) profile test s rules)
  -- It says what the user requests.
  pub requested : IsRequestedIn session (parents_in (config_parents (config_meant session))) profile
      test.mode report.content
