-- How a run ends, and what a caller receives of it.
use Rattle.std.specs.Prelude.{◌≡◌, ◌⊎◌, ◌<◌, ◌≤◌, ◌++◌, ℕ, List, [], None, Some, Result, Ok, Err, drop, length, string_bytes}
use Rattle.std.specs.Str.{IsUtf8}
use Rattle.rinqebo_request.specs.declared.files.gathering.Gathered.{Gathered}
use Rattle.rinqebo_report.specs.Rendered.{json_text}
use Rattle.rinqebo_report.specs.declared.report.Report.{Report}
use Rattle.rinqebo_report.specs.declared.reported_request.ReportCommand.TheVariants as commands
use Rattle.rinqebo_request.specs.declared.request.Request.{Request}
use Rattle.rinqebo_results.specs.Answered.{IsAnswer}
use Rattle.rinqebo_results.specs.Refused.{AreRefusedFor, HasUsageFailure, IsReportFor, LackProfileFor}
use Rattle.rinqebo_results.specs.declared.answer.Answer.{Answer}
use Rattle.rinqebo_load.specs.declared.failure.Failure.{Failure}
use Rattle.rinqebo_load.specs.declared.failure.Failure.TheVariants as failures
use Rattle.rinqebo_session.specs.declared.status.TheConstants.{DONE, REFUSED, SMALL, NOT_TEXT, MEMORY, NOT_UNDERSTOOD, NO_ENGINES, NO_PROFILE}
use Rattle.rinqebo_forms.specs.Runs.{RunText, run_of}
use Rattle.rinqebo_resolve.specs.Asking.{RequestedText, AreFilesOf, IsRequestFor, requested_of}
use Rattle.rinqebo_resolve.specs.declared.ending.Ending.{Ending}
use Rattle.rinqebo_resolve.specs.declared.ending.Ending.TheVariants as ends

-- A text is the document of a report, in JSON, of which something holds for what a run requests of
-- files.
pub record ReportsOf (asked : RequestedText) (gathered : Gathered)
    (Holds : Request → Gathered → Report → Type 0) (text : List ℕ) : Type 0 where
  pub request : Request
  pub is_request : IsRequestFor commands.List asked request
  pub report : Report
  pub holds : Holds request gathered report
  pub document : text ≡ json_text report

-- a text is the document of the result
abbrev pub IsAnswerOf : RequestedText → Gathered → List ℕ → Type 0
IsAnswerOf asked gathered =
    ReportsOf asked gathered (λ request files report. IsAnswer request files report 0)

-- a text is a document of the request beside files that are refused: some written rule does not
-- hold of them
abbrev pub IsRefusalOf : RequestedText → Gathered → List ℕ → Type 0
IsRefusalOf asked gathered = ReportsOf asked gathered
    (λ request files report. AreRefusedFor request files × IsReportFor request files report)

-- a text is a document of the request beside files that are accepted and lack the profile
abbrev pub ReportsNoProfileOf : RequestedText → Gathered → List ℕ → Type 0
ReportsNoProfileOf asked gathered = ReportsOf asked gathered
    (λ request files report. LackProfileFor request files × IsReportFor request files report)

-- A run has no engines: its list of tests, its metadata or a machine is not understood, or a filter
-- needs metadata, for what it requests of files.
pub record LacksEngines (asked : RequestedText) (gathered : Gathered) : Type 0 where
  pub request : Request
  pub is_request : IsRequestFor commands.List asked request
  pub cause : HasUsageFailure request gathered

-- how what a run requests of files ends, unless memory runs out
abbrev pub IsEndingIn : RequestedText → Gathered → Ending → Type 0
IsEndingIn asked gathered (ends.Answered text) = IsAnswerOf asked gathered (string_bytes text)
IsEndingIn asked gathered (ends.Refused text) = IsRefusalOf asked gathered (string_bytes text)
IsEndingIn asked gathered (ends.NoProfile text) =
    ReportsNoProfileOf asked gathered (string_bytes text)
IsEndingIn asked gathered (ends.NoEngines reason) = LacksEngines asked gathered
IsEndingIn asked gathered (ends.NotUnderstood reason) = ⊥
IsEndingIn asked gathered ends.NotText = ⊥
IsEndingIn asked gathered ends.Memory = Unit {0}

-- A run ends so: what it requests of its files does.
pub record IsEndingOf (run : RunText) (ending : Ending) : Type 0 where
  pub gathered : Gathered
  pub are_files : AreFilesOf run gathered
  pub is_ending : IsEndingIn (requested_of run) gathered ending

-- an ending says why the program has no result: the report of the refusal, or of the profile that
-- is missing, in JSON; a run of a list names no test that may be missing
abbrev pub ReportsFailure : Failure → Ending → Type 0
ReportsFailure (failures.Engines fault) (ends.NoEngines reason) = Unit {0}
ReportsFailure (failures.Refused report) (ends.Refused text) =
    string_bytes text ≡ json_text report
ReportsFailure (failures.NoProfile report) (ends.NoProfile text) =
    string_bytes text ≡ json_text report
ReportsFailure (failures.NoTest report) (ends.NoEngines reason) = Unit {0}
ReportsFailure (failures.SeveralTests report) (ends.NoEngines reason) = Unit {0}
ReportsFailure failure ending = ⊥

-- an ending has what the program returns: its report in JSON, or why there is none
abbrev pub ReportsOutcome : Result Answer Failure → Ending → Type 0
ReportsOutcome (Ok answer) (ends.Answered text) =
    string_bytes text ≡ json_text answer.report
ReportsOutcome (Ok answer) ending = ⊥
ReportsOutcome (Err failure) ending = ReportsFailure failure ending

-- the bytes of a request are understood, and their run ends so
abbrev pub EndsUnderstood : List ℕ → Ending → Type 0
EndsUnderstood request ending =
    (run : RunText) × (run_of request ≡ Some run) × IsEndingOf run ending

-- how the run of the bytes of a request ends: as the run that they describe does, or they are not
-- understood, or are not UTF-8, unless memory runs out
abbrev pub IsEndingFor : List ℕ → Ending → Type 0
IsEndingFor request (ends.Answered text) = EndsUnderstood request (ends.Answered text)
IsEndingFor request (ends.Refused text) = EndsUnderstood request (ends.Refused text)
IsEndingFor request (ends.NoProfile text) = EndsUnderstood request (ends.NoProfile text)
IsEndingFor request (ends.NoEngines reason) = EndsUnderstood request (ends.NoEngines reason)
IsEndingFor request (ends.NotUnderstood reason) = run_of request ≡ None
IsEndingFor request ends.NotText = ¬ IsUtf8 request
IsEndingFor request ends.Memory = Unit {0}

-- the number of an ending
abbrev pub ending_status : Ending → ℕ
ending_status (ends.Answered text) = DONE
ending_status (ends.Refused text) = REFUSED
ending_status (ends.NoProfile text) = NO_PROFILE
ending_status (ends.NoEngines reason) = NO_ENGINES
ending_status (ends.NotUnderstood reason) = NOT_UNDERSTOOD
ending_status ends.NotText = NOT_TEXT
ending_status ends.Memory = MEMORY

-- what a caller receives of an ending
abbrev pub ending_text : Ending → List ℕ
ending_text (ends.Answered text) = string_bytes text
ending_text (ends.Refused text) = string_bytes text
ending_text (ends.NoProfile text) = string_bytes text
ending_text (ends.NoEngines reason) = string_bytes reason
ending_text (ends.NotUnderstood reason) = string_bytes reason
ending_text ends.NotText = []
ending_text ends.Memory = []

-- A caller receives an ending: where the buffer has room for its text, that is at the buffer's
-- start, what was behind it stays, and its number is returned; else the buffer is left as it was.
-- The length of the text is written either way.
pub record IsReported (ending : Ending) (old new : List ℕ) (needed status : ℕ) : Type 0 where
  pub told : needed ≡ length (ending_text ending)
  pub written : length (ending_text ending) ≤ length old
      → (status ≡ ending_status ending)
      × (new ≡ ending_text ending ++ drop (length (ending_text ending)) old)
  pub small : length old < length (ending_text ending) → (status ≡ SMALL) × (new ≡ old)

-- A run is resolved: it ends so for the bytes of the request, and the caller receives that.
pub record IsResolved (request old new : List ℕ) (needed status : ℕ) : Type 0 where
  pub ending : Ending
  pub is_ending : IsEndingFor request ending
  pub is_told : IsReported ending old new needed status

-- A text is the result for the bytes of a request: they are understood, and it is the document of
-- the result over the files that they describe.
pub record IsAnswerTo (request text : List ℕ) : Type 0 where
  pub run : RunText
  pub reads : run_of request ≡ Some run
  pub gathered : Gathered
  pub are_files : AreFilesOf run gathered
  pub is_answer : IsAnswerOf (requested_of run) gathered text

-- a status beside which a caller receives nothing
abbrev pub IsSilent : ℕ → Type 0
IsSilent status = (status ≡ SMALL) ⊎ (status ≡ NOT_TEXT) ⊎ (status ≡ MEMORY)
