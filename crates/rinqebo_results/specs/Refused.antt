-- Why a run has no result.
use Rattle.std.specs.Prelude.{◌≡◌, ◌⊎◌, ℕ, List, Option}
use Rattle.std.specs.Io.KnownBytes.{Appends}
use Rattle.nextest_tables.specs.Written.{Name}
use Rattle.rinqebo_request.specs.declared.files.gathering.Gathered.{Gathered}
use Rattle.rinqebo_checks.specs.Failures.{IsFailureAbout, IsFailureToFind, LacksProfile}
use Rattle.rinqebo_checks.specs.Reports.{IsReportOf}
use Rattle.rinqebo_request.specs.declared.request.Question.{Question}
use Rattle.rinqebo_request.specs.declared.request.Question.TheVariants as questions
use Rattle.rinqebo_request.specs.declared.request.Request.{Request}
use Rattle.rinqebo_request.specs.declared.request.RequestedTest.{RequestedTest}
use Rattle.rinqebo_load.specs.Accepted.{AreAccepted}
use Rattle.rinqebo_load.specs.FindTests.{LacksTest}
use Rattle.rinqebo_load.specs.SessionOf.{IsSessionOf}
use Rattle.rinqebo_load.specs.Beginning.{IsUnusable}
use Rattle.rinqebo_load.specs.declared.failure.Failure.{Failure}
use Rattle.rinqebo_load.specs.declared.failure.Failure.TheVariants as failures
use Rattle.rinqebo_report.specs.Rendered.{rendered}
use Rattle.rinqebo_report.specs.declared.format.Format.TheVariants as formats
use Rattle.rinqebo_report.specs.declared.report.Report.{Report}
use Rattle.rinqebo_results.specs.LookedUp.{IsFailureOn}
use Rattle.rinqebo_results.specs.Statuses.{failure_status}
use Rattle.rinqebo_load.specs.declared.session.Session.{Session}

-- A session has no result about a profile and a test: it does not find the test, or it has no
-- result for which it evaluates the filters of the profile.
abbrev pub IsFailureAboutTest : Session → Name → RequestedTest → Failure → Type 0
IsFailureAboutTest session profile test failure =
    IsFailureToFind session test failure ⊎ IsFailureOn session profile failure

-- A session has no result for a request. A check reports refused files as its result, and names no
-- profile and no test: it has none only for want of memory. For `show-config` and `check` the
-- program evaluates no filter.
abbrev pub IsFailureIn : Session → Question → Failure → Type 0
IsFailureIn session (questions.Explain profile test asked) failure =
    IsFailureAboutTest session profile.now test failure
IsFailureIn session (questions.Why profile test setting) failure =
    IsFailureAboutTest session profile.now test failure
IsFailureIn session (questions.WhyRuns profile test) failure =
    IsFailureAboutTest session profile.now test failure
IsFailureIn session (questions.List profile mode list asked) failure =
    IsFailureOn session profile.now failure
IsFailureIn session (questions.ShowConfig profile keys with_hidden) failure =
    IsFailureAbout session profile.now failure
IsFailureIn session (questions.Check deny_warnings) failure = failure ≡ failures.Memory

-- A session of a request has no result for it.
pub record FailsInSession (request : Request) (gathered : Gathered) (failure : Failure) : Type 0
  where
    pub session : Session
    pub begun : IsSessionOf request gathered session
    pub cause : IsFailureIn session request.question failure

-- A request has no result: its list of tests, its metadata or a machine is not understood, or a
-- session has no result for it.
abbrev pub Fails : Request → Gathered → Failure → Type 0
Fails request gathered failure =
    IsUnusable request gathered failure ⊎ FailsInSession request gathered failure

-- The program cannot use what a request names: it has no result, for a failure with exit status 2.
pub record HasUsageFailure (request : Request) (gathered : Gathered) : Type 0 where
  pub failure : Failure
  pub is_status : failure_status failure ≡ 2
  pub fails : Fails request gathered failure

-- The files of a request are refused: some written rule does not hold of them.
pub record AreRefusedFor (request : Request) (gathered : Gathered) : Type 0 where
  pub session : Session
  pub begun : IsSessionOf request gathered session
  pub broken : ¬ AreAccepted session

-- the files of a session lack the profile that a request names
abbrev pub LacksProfileOf : Session → Question → Type 0
LacksProfileOf session (questions.Explain profile test asked) = LacksProfile session profile.now
LacksProfileOf session (questions.Why profile test setting) = LacksProfile session profile.now
LacksProfileOf session (questions.WhyRuns profile test) = LacksProfile session profile.now
LacksProfileOf session (questions.List profile mode list asked) = LacksProfile session profile.now
LacksProfileOf session (questions.ShowConfig profile keys with_hidden) =
    LacksProfile session profile.now
LacksProfileOf session (questions.Check deny_warnings) = ⊥

-- The files of a request lack the profile that it names.
pub record LackProfileFor (request : Request) (gathered : Gathered) : Type 0 where
  pub session : Session
  pub begun : IsSessionOf request gathered session
  pub lacks : LacksProfileOf session request.question

-- a session lacks the test that a request names
abbrev pub LacksTestOf : Session → Question → Type 0
LacksTestOf session (questions.Explain profile test asked) = LacksTest session test
LacksTestOf session (questions.Why profile test setting) = LacksTest session test
LacksTestOf session (questions.WhyRuns profile test) = LacksTest session test
LacksTestOf session (questions.List profile mode list asked) = ⊥
LacksTestOf session (questions.ShowConfig profile keys with_hidden) = ⊥
LacksTestOf session (questions.Check deny_warnings) = ⊥

-- There is no test that a request names.
pub record LackTestFor (request : Request) (gathered : Gathered) : Type 0 where
  pub session : Session
  pub begun : IsSessionOf request gathered session
  pub lacks : LacksTestOf session request.question

-- What an exit status says of a request and its files: it is 2 only where the list of tests, the
-- metadata or a machine is not understood, where the program evaluates a filter that needs
-- metadata, or where several tests have the name; 3 only where some written rule does not hold of
-- the files; and 4 only where all do and the files lack the requested profile, or where there is no
-- requested test.
pub record IsReportedBy (request : Request) (gathered : Gathered) (status : ℕ) : Type 0 where
  pub unusable : status ≡ 2 → HasUsageFailure request gathered
  pub refused : status ≡ 3 → AreRefusedFor request gathered
  pub lacking : status ≡ 4 → LackProfileFor request gathered ⊎ LackTestFor request gathered

-- A report is one of a session of a request: it shows the request.
pub record IsReportFor (request : Request) (gathered : Gathered) (report : Report) : Type 0 where
  pub session : Session
  pub begun : IsSessionOf request gathered session
  pub about : IsReportOf session report

-- a report says why a run has no result
abbrev pub IsReportOfFailure : Failure → Report → Type 0
IsReportOfFailure (failures.Engines fault) report = ⊥
IsReportOfFailure (failures.Refused told) report = report ≡ told
IsReportOfFailure (failures.NoProfile told) report = report ≡ told
IsReportOfFailure (failures.NoTest told) report = report ≡ told
IsReportOfFailure (failures.SeveralTests told) report = report ≡ told
IsReportOfFailure failures.Memory report = ⊥

-- no report says why a run has no result
abbrev pub HasNoReport : Failure → Type 0
HasNoReport (failures.Engines fault) = Unit {0}
HasNoReport (failures.Refused told) = ⊥
HasNoReport (failures.NoProfile told) = ⊥
HasNoReport (failures.NoTest told) = ⊥
HasNoReport (failures.SeveralTests told) = ⊥
HasNoReport failures.Memory = Unit {0}

-- A writer received the document of a failure, where the request is for JSON: known bytes grew by
-- exactly the report of the failure, and the exit status is that of the failure.
pub record ReportsFailure (failure : Failure) (request : Request) (status : ℕ)
    (old new : Option (List ℕ)) : Type 0 where
  pub is_json : request.format ≡ formats.Json
  pub status_is : status ≡ failure_status failure
  pub report : Report
  pub reported : IsReportOfFailure failure report
  pub page : Appends old new (rendered report request.format request.paper)

-- A writer received the document of why a request has no result.
pub record ReportsRefusal (request : Request) (gathered : Gathered) (status : ℕ)
    (old new : Option (List ℕ)) : Type 0 where
  pub failure : Failure
  pub fails : Fails request gathered failure
  pub tells : ReportsFailure failure request status old new
