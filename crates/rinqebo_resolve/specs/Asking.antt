-- A run as a request of the program.
use Rattle.std.specs.Prelude.{◌≡◌, ℕ, true, List, [], Option, None, Some, codes, option_and_then, option_map, string_bytes}
use Rattle.nextest_elements.specs.declared.experimental.ConfigExperimental.{ConfigExperimental}
use Rattle.nextest_elements.specs.declared.run_mode.NextestRunMode.{NextestRunMode}
use Rattle.nextest_rules.specs.KnownView.{features_view}
use Rattle.nextest_elements.specs.Settings.{settings}
use Rattle.rinqebo_request.specs.declared.files.gathering.Gathered.{Gathered}
use Rattle.rinqebo_report.specs.declared.format.Format.TheVariants as formats
use Rattle.rinqebo_request.specs.declared.request.RequestedSettings.{RequestedSettings}
use Rattle.rinqebo_request.specs.declared.request.RequestedSettings.TheVariants.{Decided, These}
use Rattle.rinqebo_request.specs.declared.request.EngineOptions.{EngineOptions}
use Rattle.rinqebo_request.specs.declared.request.Question.{Question}
use Rattle.rinqebo_request.specs.declared.request.Question.TheVariants as questions
use Rattle.rinqebo_request.specs.declared.request.Request.{Request}
use Rattle.rinqebo_load.specs.ListPath.{file_path}
use Rattle.rinqebo_load.specs.Sessions.{files_view}
use Rattle.rinqebo_load.specs.ShownRequests.{shown_of}
use Rattle.rinqebo_report.specs.Requests.{RequestShown}
use Rattle.rinqebo_report.specs.declared.reported_request.ReportCommand.{ReportCommand}
use Rattle.rinqebo_session.specs.Loading.{files_of, is_on}
use Rattle.rinqebo_forms.specs.Runs.{RunText}
use Rattle.rinqebo_forms.specs.declared.request.Switches.{Switches}
use Rattle.rinqebo_resolve.specs.declared.asking.RequestedRun.{RequestedRun}

-- What a run requests of files: a profile and a mode, the triples of the machines, and features.
pub record RequestedText : Type 0 where
  pub profile : List ℕ
  pub mode : NextestRunMode
  pub host : List ℕ
  pub target : Option (List ℕ)
  pub features : Switches

-- what contracts see of a request
abbrev pub requested_view : RequestedRun → RequestedText
requested_view asked = record {
  profile = string_bytes asked.profile;
  mode = asked.mode;
  host = string_bytes asked.host;
  target = option_map string_bytes asked.target;
  features = asked.features;
}

-- what a run requests of its files
abbrev pub requested_of : RunText → RequestedText
requested_of run = record {
  profile = run.profile;
  mode = run.mode;
  host = run.load.host.triple;
  target = option_map (λ machine. machine.triple) run.load.target;
  features = run.load.features;
}

-- of each test a report lists whether it runs, and all settings
abbrev pub AreAll : RequestedSettings → Type 0
AreAll Decided = ⊥
AreAll (These runs asked) = (runs ≡ true) × (asked.items ≡ settings)

-- a request is for all settings of each test of a list, which is a member of a run's request, in a
-- profile and a mode
abbrev pub AsksForAll : RequestedText → Question → Type 0
AsksForAll asked (questions.Explain profile test shown) = ⊥
AsksForAll asked (questions.Why profile test setting) = ⊥
AsksForAll asked (questions.WhyRuns profile test) = ⊥
AsksForAll asked (questions.List profile mode list shown) =
    (profile.now ≡ asked.profile) × (mode ≡ asked.mode) × (file_path list ≡ codes "list")
    × AreAll shown
AsksForAll asked (questions.ShowConfig profile keys with_hidden) = ⊥
AsksForAll asked (questions.Check deny_warnings) = ⊥

-- The languages know the requested triples, and none of an environment.
pub record AreEnginesFor (asked : RequestedText) (engines : EngineOptions) : Type 0 where
  pub host : option_map (λ host. host.now) engines.host ≡ Some asked.host
  pub target : option_map (λ target. target.now) engines.target ≡ asked.target
  pub build_target : engines.build_target ≡ None

-- what reports show of a request: the command and, in place of a path, the member that has the list
abbrev pub shown_for : ReportCommand → RequestShown
shown_for command = record {
  command = command;
  test = None;
  keys = [];
  why = None;
  by = None;
  list = Some (codes "list");
}

-- A request of the program is the one of a run, for a document of JSON, of a command.
pub record IsRequestFor (command : ReportCommand) (asked : RequestedText) (request : Request)
    : Type 0 where
  pub question : AsksForAll asked request.question
  pub shown : shown_of request ≡ shown_for command
  pub engines : AreEnginesFor asked request.engines
  pub features : (feature : ConfigExperimental)
      → features_view request.features feature ≡ is_on asked.features feature
  pub format : request.format ≡ formats.Json

-- The files that the program reads are those of a run: its root, its sources, the list of tests,
-- the metadata, and what the compiler prints for its machines.
pub record AreFilesOf (run : RunText) (gathered : Gathered) : Type 0 where
  pub root : string_bytes gathered.paths.workspace_root ≡ run.load.root
  pub sources : files_view gathered ≡ files_of run.load
  pub list : option_map string_bytes gathered.list ≡ Some run.list
  pub metadata : option_map string_bytes gathered.metadata ≡ run.load.metadata
  pub host_cfg : option_map string_bytes gathered.host_cfg ≡ run.load.host.cfg
  pub target_cfg : option_map string_bytes gathered.target_cfg
      ≡ option_and_then (λ machine. machine.cfg) run.load.target
