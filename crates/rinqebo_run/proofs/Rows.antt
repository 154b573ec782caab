-- What is reported of the settings of a test.
use Rattle.std.proofs.Common.{◌≡◌, List, string_bytes, subst, sym}
use Rattle.filter_language.specs.Filtersets.{marks_view}
use Rattle.filter_language.specs.declared.filterset.Filterset.{Filterset}
use Rattle.filter_inputs.specs.Lists.Lists.{ListTest}
use Rattle.filter_engine.specs.Compiling.{names_of}
use Rattle.filter_engine.specs.Engine.{Filter, filter_holds}
use Rattle.filter_engine.specs.declared.compiling.FieldMatcher.{FieldMatcher}
use Rattle.nextest_inheritance.specs.Parents.{parents_in}
use Rattle.nextest_load.specs.Config.{ConfigModel, config_parents}
use Rattle.nextest_load.specs.Load.{Loaded}
use Rattle.nextest_settings.specs.Profiles.Meaning.{profile_meaning}
use Rattle.nextest_settings.specs.Profiles.Profiles.{IsChainAndDefault}
use Rattle.nextest_settings.specs.Profile.{EvaluatableModel}
use Rattle.nextest_settings.specs.Queries.{query_in}
use Rattle.nextest_tables.specs.FileTexts.{names_in, IsIn}
use Rattle.nextest_tables.specs.Written.{Name}
use Rattle.rinqebo_origins.specs.TestOrigins.{Basis}
use Rattle.rinqebo_rules.specs.Rows.{IsTestReported}
use Rattle.rinqebo_load.specs.Accepted.{AreAccepted}
use Rattle.rinqebo_load.specs.FoundTests.{found_view}
use Rattle.rinqebo_load.specs.Sessions.{files_view, readings, IsLoadedFrom}
use Rattle.rinqebo_load.specs.declared.found_test.FoundTest.{FoundTest}
use Rattle.rinqebo_load.specs.declared.session.Session.{Session}
use Rattle.rinqebo_report.specs.declared.report.Content.{Content}
use Rattle.rinqebo_report.specs.declared.report.Report.{Report}
use Rattle.rinqebo_report.specs.declared.report.TestRows.{TestRows}
use Rattle.rinqebo_request.specs.declared.request.RequestedSettings.{RequestedSettings}
use Rattle.rinqebo_rules.specs.Conditions.{is_met_by}
use Rattle.rinqebo_results.proofs.Listing.{given_means}
use Rattle.rinqebo_results.proofs.Requests.{requested_meant}
use Rattle.rinqebo_results.specs.Requested.{IsRequestedIn}
use Rattle.rinqebo_results.specs.Explained.{Explains, IfExplained, IsTestOf}
use Rattle.rinqebo_results.specs.Listed.{IsProfileOn}
use Rattle.rinqebo_results.specs.ListedBy.{basis_of, explained_by, read_by}
use Rattle.platform_language.specs.Expressions.{Spec, spec_view}
use Rattle.platform_language.specs.declared.expression.TargetSpec.{TargetSpec}

-- a test is reported by a configuration that was loaded
pub explained_here : (session : Session) (loaded : Loaded (Filterset FieldMatcher) TargetSpec) (name : Name)
    (test : FoundTest) (rows : RequestedSettings) (asked : ListTest) (basis : Basis)
    (on : EvaluatableModel (Filterset FieldMatcher)) (names : List Name) (told : TestRows)
    → IsProfileOn is_met_by session.engines.platforms (read_by session loaded) name on
    → IsChainAndDefault (parents_in (config_parents loaded.config)) name names → basis ≡ basis_of session names
    → asked ≡ found_view test
    → IsTestReported basis (query_in filter_holds (profile_meaning (marks_view names_of) on) asked.test) test.mode
    (profile_meaning (marks_view names_of) on) rows asked told
    → explained_by session loaded name test rows told
explained_here session loaded name test rows asked basis on names told is ends same_basis same reported =
    let profile = profile_meaning (marks_view names_of) on in
    let Told : Basis → ListTest → Type 0 =
    λ b listed. IsTestReported b (query_in filter_holds profile listed.test) test.mode profile rows listed told in
    record {
      profile = profile;
      is_profile = given_means (marks_view names_of) spec_view (readings session.engines.filters).meets
          session.engines.platforms (read_by session loaded) name on is;
      chain = names;
      is_chain = ends;
      reported = subst (Told (basis_of session names)) same (subst (λ b. Told b asked) same_basis reported);
    }

-- a report tells the settings of a test by what was loaded
pub explains : (session : Session) (profile : Name) (test : FoundTest) (rows : RequestedSettings) (report : Report)
    (content : Content) (loaded : Loaded (Filterset FieldMatcher) TargetSpec) → AreAccepted session
    → IsLoadedFrom (readings session.engines.filters) (files_view session.gathered.now) loaded
    → IsIn (names_in loaded.config.profiles) profile → report.content ≡ content
    → IfExplained content (explained_by session loaded profile test rows)
    → IsRequestedIn session (parents_in (config_parents loaded.config)) profile test.mode content
    → Explains session profile test rows report
explains session profile test rows report content loaded accepted from there same is requested =
    let engines = readings session.engines.filters in
    let Told : Content → ConfigModel Filter Spec → Type 0 =
    λ content config. IfExplained content (IsTestOf engines.meets engines.matches_test session.engines.platforms
    (record {
      root = string_bytes session.gathered.now.paths.workspace_root;
      config = config;
      scripts = loaded.scripts;
    }) profile test rows session.layers.items) in
    record {
      acceptance = accepted;
      scripts = loaded.scripts;
      are_scripts = from.scripts;
      known = subst (λ config. IsIn (names_in config.profiles) profile) from.means there;
      told = subst (Told report.content) from.means
          (subst (λ content. IfExplained content (explained_by session loaded profile test rows)) (sym same) is);
      requested = requested_meant session profile test.mode report.content content loaded from same requested;
    }
