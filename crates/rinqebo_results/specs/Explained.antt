-- The settings of a test, as a report lists them.
use Rattle.std.specs.Prelude.{Bool, List, Option}
use Rattle.nextest_engines.specs.Engines.{Test}
use Rattle.nextest_engines.specs.declared.queries.BuildPlatforms.{BuildPlatforms}
use Rattle.nextest_inheritance.specs.Parents.{parents_in}
use Rattle.nextest_load.specs.Config.{ScriptTables, config_parents}
use Rattle.nextest_load.specs.Scripts.{AreScriptsOf}
use Rattle.nextest_settings.specs.Profiles.Profiles.{IsChainAndDefault}
use Rattle.nextest_settings.specs.Profile.{Configured, EvaluatableModel}
use Rattle.nextest_settings.specs.Queries.{query_in}
use Rattle.nextest_sources.specs.Inputs.{sources_in}
use Rattle.nextest_tables.specs.FileTexts.{names_in, IsIn}
use Rattle.nextest_tables.specs.Written.{Name}
use Rattle.rinqebo_request.specs.declared.files.layers.Layer.{Layer}
use Rattle.rinqebo_rules.specs.Rows.{IsTestReported}
use Rattle.rinqebo_load.specs.Accepted.{AreAccepted}
use Rattle.rinqebo_load.specs.FoundTests.{found_view}
use Rattle.rinqebo_load.specs.Meant.{config_meant}
use Rattle.rinqebo_load.specs.Sessions.{files_view, readings}
use Rattle.rinqebo_load.specs.declared.found_test.FoundTest.{FoundTest}
use Rattle.rinqebo_load.specs.declared.session.Session.{Session}
use Rattle.rinqebo_report.specs.declared.report.Content.{Content}
use Rattle.rinqebo_report.specs.declared.report.Content.TheVariants as contents
use Rattle.rinqebo_report.specs.declared.report.Report.{Report}
use Rattle.rinqebo_report.specs.declared.report.TestRows.{TestRows}
use Rattle.rinqebo_request.specs.declared.request.RequestedSettings.{RequestedSettings}
use Rattle.rinqebo_results.specs.Listed.{IsProfileOn}
use Rattle.rinqebo_results.specs.Requested.{IsRequestedIn}
use Rattle.rinqebo_results.specs.ReportsReasons.{configured_by}

-- A report lists a test as the profile of a name gives it settings on the platforms of a build, and
-- as the report of a list lists it: whether it runs, and the requested settings, in order, each
-- with its value, and with its origins in the layers of the files and in the chain of the profile.
pub record IsTestOf {M K P : Type 0} (meets : K → P → Option Bool) (matches : M → Test → M → Bool)
    (platforms : BuildPlatforms P) (configured : Configured M K) (name : Name) (test : FoundTest)
    (rows : RequestedSettings) (layers : List Layer) (told : TestRows) : Type 0 where
  pub profile : EvaluatableModel M
  pub is_profile : IsProfileOn meets platforms configured name profile
  pub chain : List Name
  pub is_chain : IsChainAndDefault (parents_in (config_parents configured.config)) name chain
  pub reported : IsTestReported (record { layers = layers; chain = chain })
      (query_in matches profile (found_view test).test) test.mode profile rows (found_view test)
      told

-- a fact of the test that a report is about
abbrev pub IfExplained : Content → (TestRows → Type 0) → Type 0
IfExplained (contents.Explain asked test) P = P test
IfExplained _ P = ⊥

-- A report lists what a profile gives a test, by what the files mean.
pub record Explains (session : Session) (profile : Name) (test : FoundTest)
    (rows : RequestedSettings) (report : Report) : Type 0 where
  -- Every written rule holds of the files.
  pub acceptance : AreAccepted session
  -- Their scripts are those that they define.
  pub scripts : ScriptTables
  pub are_scripts : AreScriptsOf (sources_in (files_view session.gathered.now)) scripts
  -- They have the profile.
  pub known : IsIn (names_in (configured_by session scripts).config.profiles) profile
  -- The report says whether the test runs, and lists the requested settings, as the profile gives
  -- them to the test.
  pub told : IfExplained report.content (IsTestOf (readings session.engines.filters).meets
      (readings session.engines.filters).matches_test session.engines.platforms
      (configured_by session scripts) profile test rows session.layers.items)
  -- It says what the user requests.
  pub requested : IsRequestedIn session (parents_in (config_parents (config_meant session))) profile
      test.mode report.content
