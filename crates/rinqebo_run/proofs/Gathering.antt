-- The rules of a setting and the fallback, put together.
use Rattle.std.proofs.Common.{◌≡◌, All, Bool, ℕ, List, [], ◌∷◌, ◌++◌, option_map, subst, sym, string_bytes}
use Rattle.filter_language.specs.Filtersets.{marks_view}
use Rattle.filter_language.specs.declared.filterset.Filterset.{Filterset}
use Rattle.nextest_engines.specs.Engines.{Test, test_view}
use Rattle.nextest_engines.specs.declared.queries.BuildPlatforms.{BuildPlatforms}
use Rattle.nextest_engines.specs.declared.queries.TestQuery.{TestQuery}
use Rattle.filter_engine.specs.Compiling.{names_of}
use Rattle.filter_engine.specs.declared.compiling.FieldMatcher.{FieldMatcher}
use Rattle.nextest_inheritance.specs.Parents.{parents_in}
use Rattle.nextest_load.specs.Config.{config_parents}
use Rattle.nextest_load.specs.Load.{Loaded}
use Rattle.nextest_settings.specs.Chains.{FilterChoice}
use Rattle.nextest_settings.specs.Profile.{Configured, EarlyModel, profile_on}
use Rattle.nextest_settings.specs.Queries.{test_query}
use Rattle.nextest_settings.specs.Settings.{fallback_of}
use Rattle.nextest_elements.specs.declared.setting.Setting.{Setting}
use Rattle.nextest_tables.specs.FileTexts.{names_in, IsIn}
use Rattle.nextest_tables.specs.Written.{Name}
use Rattle.rinqebo_request.specs.declared.files.layers.Layer.{Layer as FileLayer}
use Rattle.rinqebo_report.specs.declared.report.Content.{Content}
use Rattle.rinqebo_report.specs.declared.report.Content.TheVariants as contents
use Rattle.rinqebo_report.specs.declared.report.Report.{Report}
use Rattle.rinqebo_report.specs.declared.report.Rule.{Rule}
use Rattle.rinqebo_report.specs.declared.report.TestId.{TestId}
use Rattle.rinqebo_report.specs.declared.report.Verdict.TheVariants as told
use Rattle.rinqebo_keys.specs.Keys.{key_name, key_table, key_text}
use Rattle.platform_language.specs.Expressions.{spec_view}
use Rattle.platform_language.specs.declared.expression.TargetSpec.{TargetSpec}
use Rattle.platform_language.specs.declared.platforms.Platform.{Platform}
use Rattle.rinqebo_run.proofs.Meant.{reasons_of_texts}
use Rattle.rinqebo_results.proofs.Requests.{requested_meant}
use Rattle.rinqebo_results.specs.Requested.{IsRequestedIn}
use Rattle.rinqebo_load.specs.Accepted.{AreAccepted}
use Rattle.rinqebo_load.specs.FoundTests.{found_view}
use Rattle.rinqebo_rules.specs.Conditions.{is_met_by, filter_matches}
use Rattle.rinqebo_results.specs.Reasons.{AreRulesReported, HasNoConditions, IsRuleAsWritten}
use Rattle.rinqebo_load.specs.Sessions.{files_view, readings, IsLoadedFrom}
use Rattle.rinqebo_origins.specs.Origins.{key_steps}
use Rattle.rinqebo_origins.specs.ProfileOrigins.{AreProfileOrigins}
use Rattle.rinqebo_rules.specs.SettingRules.{rules_for}
use Rattle.rinqebo_results.specs.ReportsReasons.{AreReasons, AreReasonsIn, configured_by, IfWhy, IsTestNamed, ReportsReasons}
use Rattle.rinqebo_load.specs.declared.found_test.FoundTest.{FoundTest}
use Rattle.rinqebo_load.specs.declared.session.Session.{Session}
use Rattle.rinqebo_origins.specs.Reported.{reported_of, value_view}

-- what is reported of the rules of a profile for a setting, and then of the fallback
pub reasons_here : (layers : List FileLayer) (platforms : BuildPlatforms Platform) (test : FoundTest) (query : TestQuery) (s : Setting)
    (default : FilterChoice (Filterset FieldMatcher)) (profile : EarlyModel (Filterset FieldMatcher) TargetSpec)
    (before : List Rule) (fallback : Rule) (rules : List Rule) (chain : List Name)
    → default ≡ (profile_on is_met_by platforms profile).default_filter
    → test_view query ≡ (found_view test).test
    → AreRulesReported layers is_met_by platforms (test_query filter_matches default.filter (test_view query))
    (rules_for s test.mode profile.overrides profile.script_rules) before
    → fallback.verdict ≡ told.Fallback
    → option_map value_view fallback.value
    ≡ option_map (reported_of s) (fallback_of profile.facts.fields test.mode s)
    → AreProfileOrigins layers chain (key_table s test.mode) (key_name s) (fallback.origin ∷ fallback.others.items)
    → HasNoConditions fallback
    → rules ≡ before ++ fallback ∷ []
    → All (IsRuleAsWritten layers (key_steps (key_table s test.mode) (key_name s))) rules
    → AreReasons layers chain is_met_by filter_matches platforms test s profile rules
reasons_here layers platforms test query s default profile before fallback rules chain same found here last valued
    origins absent are written =
    let Told : Test → FilterChoice (Filterset FieldMatcher) → Type 0 =
    λ t choice. AreRulesReported layers is_met_by platforms (test_query filter_matches choice.filter t)
    (rules_for s test.mode profile.overrides profile.script_rules) before in
    record {
      before = before;
      fallback = fallback;
      are = are;
      rules_reported = subst (Told (found_view test).test) same (subst (λ t. Told t default) found here);
      fallback_reported = last;
      fallback_value = valued;
      fallback_origins = origins;
      fallback_conditions = absent;
      as_written = written;
    }

-- a fact of a test, a key and rules follows from another one
pub why_moved : (content : Content) (P Q : TestId → List ℕ → List Rule → Bool → Type 0)
    → ((named : TestId) (key : List ℕ) (rules : List Rule) (ignored : Bool) → P named key rules ignored
    → Q named key rules ignored)
    → IfWhy content P → IfWhy content Q
why_moved (contents.Explain asked test) P Q moved is = absurd is
why_moved (contents.Why asked test key rules is_ignored) P Q moved is =
    moved test (string_bytes key) rules.items is_ignored is
why_moved (contents.List asked tests unused scripts objects) P Q moved is = absurd is
why_moved (contents.ShowConfig asked entries) P Q moved is = absurd is
why_moved contents.Check P Q moved is = absurd is

-- a report tells the rules of a setting by what was loaded
pub tells : (session : Session) (profile : Name) (test : FoundTest) (s : Setting) (report : Report) (content : Content)
    (loaded : Loaded (Filterset FieldMatcher) TargetSpec)
    → AreAccepted session
    → IsLoadedFrom (readings session.engines.filters) (files_view session.gathered.now) loaded
    → IsIn (names_in loaded.config.profiles) profile → report.content ≡ content
    → IfWhy content (λ named key rules ignored. IsTestNamed test named × (key ≡ key_text s test.mode)
    × (ignored ≡ test.ignored)
    × AreReasonsIn session.layers.items is_met_by filter_matches session.engines.platforms (record {
      root = string_bytes session.gathered.now.paths.workspace_root;
      config = loaded.config;
      scripts = loaded.scripts;
    }) profile test s rules)
    → IsRequestedIn session (parents_in (config_parents loaded.config)) profile test.mode content
    → ReportsReasons session profile test s report
tells session profile test s report content loaded accepted from there same is requested =
    let engines = readings session.engines.filters in
    let read : Configured (Filterset FieldMatcher) TargetSpec = record {
      root = string_bytes session.gathered.now.paths.workspace_root;
      config = loaded.config;
      scripts = loaded.scripts;
    } in
    let Read : TestId → List ℕ → List Rule → Bool → Type 0 =
    λ named key rules ignored. IsTestNamed test named × (key ≡ key_text s test.mode) × (ignored ≡ test.ignored)
    × AreReasonsIn session.layers.items is_met_by filter_matches session.engines.platforms read profile test s rules in
    let Meant : TestId → List ℕ → List Rule → Bool → Type 0 =
    λ named key rules ignored. IsTestNamed test named × (key ≡ key_text s test.mode) × (ignored ≡ test.ignored)
    × AreReasonsIn session.layers.items engines.meets engines.matches_test session.engines.platforms
    (configured_by session loaded.scripts) profile test s rules in
    record {
      acceptance = accepted;
      scripts = loaded.scripts;
      are_scripts = from.scripts;
      known = subst (λ config. IsIn (names_in config.profiles) profile) from.means there;
      told = why_moved report.content Read Meant
          (λ named key rules ignored h. (
            h.0,
            h.1,
            h.2,
            reasons_of_texts (marks_view names_of) spec_view engines.meets session.engines.platforms
                session.layers.items engines.matches_test test s read profile rules _ from.means h.3,
          ))
          (subst (λ content. IfWhy content Read) (sym same) is);
      requested = requested_meant session profile test.mode report.content content loaded from same requested;
    }
