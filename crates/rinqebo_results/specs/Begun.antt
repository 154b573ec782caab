-- What the program wrote of a list that it did not write whole: its first tests.
use Rattle.std.specs.Prelude.{◌≡◌, ◌++◌, ℕ, Bool, List, Option, flat_map, string_bytes, take}
use Rattle.std.specs.Io.KnownBytes.{Appends}
use Rattle.nextest_elements.specs.declared.run_mode.NextestRunMode.{NextestRunMode}
use Rattle.nextest_engines.specs.Engines.{Test}
use Rattle.nextest_engines.specs.declared.queries.BuildPlatforms.{BuildPlatforms}
use Rattle.nextest_inheritance.specs.Parents.{parents_in}
use Rattle.nextest_load.specs.Config.{ScriptTables, config_parents}
use Rattle.nextest_load.specs.Scripts.{AreScriptsOf}
use Rattle.nextest_settings.specs.Profiles.Profiles.{IsChainAndDefault}
use Rattle.nextest_settings.specs.Profile.{Configured, EvaluatableModel}
use Rattle.nextest_sources.specs.Inputs.{sources_in}
use Rattle.nextest_tables.specs.FileTexts.{names_in, IsIn}
use Rattle.nextest_tables.specs.Written.{Name}
use Rattle.rinqebo_request.specs.declared.files.gathering.Gathered.{Gathered}
use Rattle.rinqebo_request.specs.declared.files.layers.Layer.{Layer}
use Rattle.rinqebo_origins.specs.TestOrigins.{Basis}
use Rattle.rinqebo_rules.specs.Rows.{AreTestsReported}
use Rattle.rinqebo_report.specs.Headers.{list_head_runs}
use Rattle.rinqebo_report.specs.Pages.{listed_runs}
use Rattle.rinqebo_report.specs.Pieces.{page_text}
use Rattle.rinqebo_report.specs.declared.format.Format.TheVariants as formats
use Rattle.rinqebo_report.specs.declared.layout.Paper.{Paper}
use Rattle.rinqebo_report.specs.declared.report.Asked.{Asked}
use Rattle.rinqebo_report.specs.declared.report.Report.{Report}
use Rattle.rinqebo_report.specs.declared.report.TestRows.{TestRows}
use Rattle.rinqebo_request.specs.declared.request.RequestedSettings.{RequestedSettings}
use Rattle.rinqebo_request.specs.declared.request.Question.{Question}
use Rattle.rinqebo_request.specs.declared.request.Question.TheVariants as questions
use Rattle.rinqebo_request.specs.declared.request.Request.{Request}
use Rattle.filter_inputs.specs.Lists.ListView.{list_view}
use Rattle.filter_inputs.specs.Lists.Lists.{ListTest, list_tests}
use Rattle.rinqebo_load.specs.Accepted.{AreAccepted}
use Rattle.rinqebo_results.specs.Listed.{IsProfileOn}
use Rattle.rinqebo_load.specs.SessionOf.{IsSessionOf}
use Rattle.rinqebo_load.specs.Sessions.{files_view, readings}
use Rattle.rinqebo_results.specs.Requested.{IsRequestedOf}
use Rattle.rinqebo_results.specs.ReportsReasons.{configured_by}
use Rattle.rinqebo_load.specs.declared.session.Session.{Session}

-- the lines of tests on the page of a report
abbrev pub tests_text : Report → Paper → List TestRows → List ℕ
tests_text head paper tests =
    page_text paper.colour
    (flat_map (listed_runs paper.columns (string_bytes head.root) head.sources.items) tests)

-- The program wrote the tests of a list, each whole and with the settings that a profile gives it:
-- known bytes grew by their lines on the page of a report, and by nothing else.
pub record AreWritten {M : Type 0} (basis : Basis) (matches : M → Test → M → Bool)
    (mode : NextestRunMode) (profile : EvaluatableModel M) (asked : RequestedSettings)
    (list : List ListTest) (head : Report) (paper : Paper) (old new : Option (List ℕ))
    : Type 0 where
  pub tests : List TestRows
  pub are_reported : AreTestsReported basis matches mode profile asked list tests
  pub page : Appends old new (tests_text head paper tests)

-- The program wrote the first tests of a list, each whole and with the settings that a profile
-- gives it: known bytes grew by their lines on the page of a report, and by nothing else.
pub record AreFirstWritten {M : Type 0} (basis : Basis) (matches : M → Test → M → Bool)
    (mode : NextestRunMode) (profile : EvaluatableModel M) (asked : RequestedSettings)
    (list : List ListTest) (head : Report) (paper : Paper) (old new : Option (List ℕ))
    : Type 0 where
  pub count : ℕ
  pub tests : List TestRows
  pub are_reported : AreTestsReported basis matches mode profile asked (take count list) tests
  pub page : Appends old new (tests_text head paper tests)

-- The program wrote a header, which is that of the request for the chain of a profile, and then the
-- first tests of a list, with the settings that the profile of a name gives them on the platforms
-- of a build.
pub record AreFirstOf {M K P : Type 0} (meets : K → P → Option Bool) (matches : M → Test → M → Bool)
    (platforms : BuildPlatforms P) (configured : Configured M K) (name : Name)
    (mode : NextestRunMode) (IsAsked : List Name → Asked → Type 0) (asked : RequestedSettings)
    (layers : List Layer) (list : List ListTest) (paper : Paper) (old new : Option (List ℕ))
    : Type 0 where
  pub head : Report
  pub profile : EvaluatableModel M
  pub is_profile : IsProfileOn meets platforms configured name profile
  pub chain : List Name
  pub is_chain : IsChainAndDefault (parents_in (config_parents configured.config)) name chain
  pub header : Asked
  pub is_asked : IsAsked chain header
  pub count : ℕ
  pub tests : List TestRows
  pub are_reported : AreTestsReported (record { layers = layers; chain = chain }) matches mode
      profile asked (take count list) tests
  pub page : Appends old new
      (page_text paper.colour (list_head_runs paper.columns header) ++ tests_text head paper tests)

-- The program began the page of a list: it wrote the header and the first tests, by what the files
-- mean.
pub record BeginsList (session : Session) (profile : Name) (mode : NextestRunMode)
    (asked : RequestedSettings) (paper : Paper) (old new : Option (List ℕ)) : Type 0 where
  -- Every written rule holds of the files.
  pub acceptance : AreAccepted session
  -- Their scripts are those that they define.
  pub scripts : ScriptTables
  pub are_scripts : AreScriptsOf (sources_in (files_view session.gathered.now)) scripts
  -- They have the profile.
  pub known : IsIn (names_in (configured_by session scripts).config.profiles) profile
  pub first : AreFirstOf (readings session.engines.filters).meets
      (readings session.engines.filters).matches_test session.engines.platforms
      (configured_by session scripts) profile mode (IsRequestedOf session profile mode) asked
      session.layers.items (list_tests (list_view session.tests)) paper old new

-- the program began the page of a request: only a list is written before its end is known
abbrev pub BeginsPage : Question → Session → Paper → Option (List ℕ) → Option (List ℕ) → Type 0
BeginsPage (questions.List profile mode list asked) session paper old new =
    BeginsList session profile.now mode asked paper old new
BeginsPage _ session paper old new = ⊥

-- The program began the text of a list over the files that were read: a writer received the header
-- and the lines of the first tests, each whole.
pub record IsBegun (request : Request) (gathered : Gathered) (old new : Option (List ℕ)) : Type 0
  where
    pub session : Session
    pub of_request : IsSessionOf request gathered session
    pub is_text : request.format ≡ formats.Text
    pub page : BeginsPage request.question session request.paper old new
