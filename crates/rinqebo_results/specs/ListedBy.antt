-- A test, and the tests of a list, as a report lists them by a configuration that was read.
use Rattle.std.specs.Prelude.{◌++◌, List, Option, map, string_bytes}
use Rattle.filter_language.specs.Filtersets.{marks_view}
use Rattle.filter_language.specs.declared.filterset.Filterset.{Filterset}
use Rattle.nextest_elements.specs.declared.run_mode.NextestRunMode.{NextestRunMode}
use Rattle.filter_engine.specs.Compiling.{names_of}
use Rattle.filter_engine.specs.declared.compiling.FieldMatcher.{FieldMatcher}
use Rattle.nextest_load.specs.Load.{Loaded}
use Rattle.nextest_settings.specs.Profiles.Meaning.{configured_meaning}
use Rattle.nextest_rules.specs.View.{id_view, script_rule_id_view}
use Rattle.nextest_settings.specs.Profile.{Configured}
use Rattle.nextest_tables.specs.Written.{Name}
use Rattle.rinqebo_report.specs.declared.exact_value.ExactValue.{ExactValue}
use Rattle.rinqebo_report.specs.declared.origin.Origin.{Origin}
use Rattle.rinqebo_report.specs.declared.report.ListScripts.{ListScripts}
use Rattle.rinqebo_report.specs.declared.report.TestRows.{TestRows}
use Rattle.rinqebo_request.specs.declared.request.RequestedSettings.{RequestedSettings}
use Rattle.platform_language.specs.Expressions.{spec_view}
use Rattle.platform_language.specs.declared.expression.TargetSpec.{TargetSpec}
use Rattle.filter_inputs.specs.Lists.ListView.{list_view}
use Rattle.rinqebo_results.specs.Explained.{IsTestOf}
use Rattle.rinqebo_results.specs.Listed.{AreTestsOf}
use Rattle.rinqebo_origins.specs.TestOrigins.{Basis}
use Rattle.rinqebo_rules.specs.declared.unused.UnusedRules.{UnusedRules}
use Rattle.rinqebo_origins.specs.RulePlaces.{Place, id_place, script_place}
use Rattle.rinqebo_load.specs.Sessions.{readings}
use Rattle.rinqebo_load.specs.declared.found_test.FoundTest.{FoundTest}
use Rattle.rinqebo_load.specs.declared.session.Session.{Session}

-- a configuration that was loaded in a session
abbrev pub read_by : Session → Loaded (Filterset FieldMatcher) TargetSpec
    → Configured (Filterset FieldMatcher) TargetSpec
read_by session loaded = record {
  root = string_bytes session.gathered.now.paths.workspace_root;
  config = loaded.config;
  scripts = loaded.scripts;
}

-- the places of the rules of ids: the overrides in order, and then the script rules in order
abbrev pub places_of : UnusedRules → List Place
places_of unused = map (λ id. id_place (id_view id.now)) unused.overrides.items
    ++ map (λ id. script_place (script_rule_id_view id.now)) unused.script_rules.items

-- a report lists tests, rules, scripts and objects as the profile of a name gives them, by what was
-- loaded
abbrev pub listed_by : Session → Loaded (Filterset FieldMatcher) TargetSpec → Name
    → NextestRunMode → RequestedSettings → List TestRows → List Origin → ListScripts
    → Option ExactValue → Type 0
listed_by session loaded profile mode asked =
    AreTestsOf (readings session.engines.filters).meets
    (readings session.engines.filters).matches_test
    (readings session.engines.filters).matches_binary session.engines.platforms
    (configured_meaning (marks_view names_of) spec_view (read_by session loaded)) profile mode
    asked session.layers.items (list_view session.tests)

-- a report lists a test as the profile of a name gives it settings, by what was loaded
abbrev pub explained_by : Session → Loaded (Filterset FieldMatcher) TargetSpec → Name → FoundTest
    → RequestedSettings → TestRows → Type 0
explained_by session loaded profile test asked =
    IsTestOf (readings session.engines.filters).meets
    (readings session.engines.filters).matches_test session.engines.platforms
    (configured_meaning (marks_view names_of) spec_view (read_by session loaded)) profile test
    asked session.layers.items

-- where the program looks up the origins of a session, with the chain of a profile
abbrev pub basis_of : Session → List Name → Basis
basis_of session chain = record { layers = session.layers.items; chain = chain }
