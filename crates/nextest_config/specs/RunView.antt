-- What contracts see of a run: the request, and the result.
use Rattle.std.specs.Prelude.{◌≡◌, ℕ, List, map, Option, None, Some, Result, Ok, Err, Vec, string_bytes}
use Rattle.std.specs.declared.alloc.Global.{Global}
use Rattle.nextest_elements.specs.declared.run_mode.NextestRunMode.{NextestRunMode}
use Rattle.nextest_engines.specs.Engines.{test_view}
use Rattle.nextest_engines.specs.declared.queries.BuildPlatforms.{BuildPlatforms}
use Rattle.nextest_engines.specs.declared.queries.TestQuery.{TestQuery}
use Rattle.nextest_rules.specs.KnownView.{features_view}
use Rattle.nextest_sources.specs.Causes.{LoadFault}
use Rattle.nextest_sources.specs.Endings.{Ending, passed, refused, no_memory, malformed, error_view}
use Rattle.nextest_sources.specs.Inputs.{load_inputs_view}
use Rattle.nextest_sources.specs.Warnings.{Warning}
use Rattle.nextest_config.specs.Headline.{Request, Row, Refusal, bad_config, no_profile, out_of_memory, Run}
use Rattle.nextest_config.specs.Answers.{Question}
use Rattle.nextest_config.specs.RowView.{row_view}
use Rattle.nextest_config.specs.declared.profile_error.ProfileError.{ProfileError}
use Rattle.nextest_config.specs.declared.profile_error.ProfileError.TheVariants as errors
use Rattle.nextest_config.specs.declared.run.Inputs.{Inputs}
use Rattle.nextest_config.specs.declared.run.fault.ResolveFault.{ResolveFault}
use Rattle.nextest_config.specs.declared.run.fault.ResolveFault.TheVariants.{Config, NoProfile, Memory}
use Rattle.nextest_config.specs.declared.run.row.TestRow.{TestRow}

-- the request
abbrev pub request_view : {P : Type 0} → Inputs → List ℕ → BuildPlatforms P → NextestRunMode
    → List TestQuery → Request P
request_view inputs profile platforms mode tests = record {
  root = string_bytes inputs.paths.now.workspace_root;
  files = load_inputs_view inputs.paths.now.shared inputs.selection inputs.tools.now;
  features = features_view inputs.features.now;
  profile = profile;
  platforms = platforms;
  mode = mode;
  tests = map test_view tests;
}

-- a request to a configuration
abbrev pub question_view : {P : Type 0} → List ℕ → BuildPlatforms P → NextestRunMode
    → List TestQuery → Question P
question_view profile platforms mode tests = record {
  profile = profile;
  platforms = platforms;
  mode = mode;
  tests = map test_view tests;
}

-- the fault with which a load ended, if it ended with one
abbrev pub fault_of_ending : Ending → Option LoadFault
fault_of_ending passed = None
fault_of_ending (refused fault) = Some fault
fault_of_ending no_memory = None
fault_of_ending malformed = None

-- why no rows are returned
abbrev pub refusal_view : ResolveFault → Refusal
refusal_view (Config error) = bad_config (fault_of_ending (error_view error))
refusal_view (NoProfile missing) =
    no_profile (string_bytes missing.name) (map string_bytes missing.known.items)
refusal_view Memory = out_of_memory

-- how a load ended, by a refusal
abbrev pub TellsEnding : Ending → Refusal → Type 0
TellsEnding passed refusal = Unit {0}
TellsEnding (refused fault) refusal = refusal ≡ bad_config (Some fault)
TellsEnding no_memory refusal = refusal ≡ out_of_memory
TellsEnding malformed refusal = Unit {0}

-- the fault of a run whose profile is not given
abbrev pub profile_fault : ProfileError → ResolveFault
profile_fault (errors.NotFound missing) = NoProfile missing
profile_fault errors.Memory = Memory

-- the result
abbrev pub answer_view : Result (Vec TestRow Global) ResolveFault → Result (List Row) Refusal
answer_view (Ok rows) = Ok (map row_view rows.items)
answer_view (Err fault) = Err (refusal_view fault)

-- a run: its result, and warnings and evaluations before and after it
abbrev pub run_view : Result (List Row) Refusal → List Warning → List Warning → List ℕ → List ℕ
    → Run
run_view answer warnings_old warnings_new numbers_old numbers_new = record {
  answer = answer;
  warnings_old = warnings_old;
  warnings_new = warnings_new;
  numbers_old = numbers_old;
  numbers_new = numbers_new;
}
