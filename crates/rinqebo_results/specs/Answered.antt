-- The result of a request.
use Rattle.std.specs.Prelude.{◌≡◌, ℕ, List, Option}
use Rattle.std.specs.Io.KnownBytes.{Appends}
use Rattle.nextest_documents.specs.Layers.{keys_view}
use Rattle.rinqebo_checks.specs.Reports.{IsReportOf}
use Rattle.rinqebo_report.specs.Rendered.{rendered}
use Rattle.rinqebo_report.specs.declared.format.Format.TheVariants as formats
use Rattle.rinqebo_report.specs.declared.report.Content.{Content}
use Rattle.rinqebo_report.specs.declared.report.Report.{Report}
use Rattle.rinqebo_results.specs.Checked.{IsCheckStatus}
use Rattle.rinqebo_results.specs.Explained.{Explains}
use Rattle.rinqebo_results.specs.Listed.{HasObjects, ReportsTests}
use Rattle.rinqebo_load.specs.FindTests.{IsFoundFor}
use Rattle.rinqebo_results.specs.LookedUp.{AreLookedUp}
use Rattle.rinqebo_load.specs.SessionOf.{IsSessionOf}
use Rattle.rinqebo_results.specs.RunsReasons.{ReportsRunsReasons}
use Rattle.rinqebo_results.specs.ShownConfig.{ShowsConfig}
use Rattle.rinqebo_results.specs.ReportsReasons.{ReportsReasons}
use Rattle.rinqebo_results.specs.Warned.{ShowsWarningsIn}
use Rattle.rinqebo_request.specs.declared.files.gathering.Gathered.{Gathered}
use Rattle.rinqebo_request.specs.declared.request.Question.{Question}
use Rattle.rinqebo_request.specs.declared.request.Question.TheVariants as questions
use Rattle.rinqebo_request.specs.declared.request.Request.{Request}
use Rattle.rinqebo_request.specs.declared.request.RequestedTest.{RequestedTest}
use Rattle.rinqebo_load.specs.declared.found_test.FoundTest.{FoundTest}
use Rattle.rinqebo_load.specs.Warned.{warnings_met}
use Rattle.rinqebo_load.specs.declared.session.Session.{Session}

-- Something holds of the test that a request names, as a session finds it.
pub record IsAboutTest (session : Session) (requested : RequestedTest) (Holds : FoundTest → Type 0)
    : Type 0 where
  pub found : FoundTest
  pub is_found : IsFoundFor session requested found
  pub holds : Holds found

-- A report and a status are the result of a request in a session.
abbrev pub AnswersQuestion : Question → Session → Report → ℕ → Type 0
AnswersQuestion (questions.Explain profile test asked) session report status =
    (status ≡ 0) × IsAboutTest session test
    (λ found. Explains session profile.now found asked report)
AnswersQuestion (questions.Why profile test setting) session report status =
    (status ≡ 0) × IsAboutTest session test
    (λ found. ReportsReasons session profile.now found setting report)
AnswersQuestion (questions.WhyRuns profile test) session report status =
    (status ≡ 0) × IsAboutTest session test
    (λ found. ReportsRunsReasons session profile.now found report)
AnswersQuestion (questions.List profile mode list asked) session report status =
    (status ≡ 0) × ReportsTests session profile.now mode asked report
AnswersQuestion (questions.ShowConfig profile keys with_hidden) session report status =
    ShowsConfig session profile.now (keys_view keys.items) with_hidden report status
AnswersQuestion (questions.Check deny_warnings) session report status =
    IsCheckStatus session deny_warnings report status

-- the result of a list has objects, whose findings are the warnings of the load
abbrev pub HasObjectsFor : Session → Question → Content → Type 0
HasObjectsFor session (questions.Explain profile test asked) content = Unit {0}
HasObjectsFor session (questions.Why profile test setting) content = Unit {0}
HasObjectsFor session (questions.WhyRuns profile test) content = Unit {0}
HasObjectsFor session (questions.List profile mode list asked) content =
    HasObjects (warnings_met session) content
HasObjectsFor session (questions.ShowConfig profile keys with_hidden) content = Unit {0}
HasObjectsFor session (questions.Check deny_warnings) content = Unit {0}

-- A report and a status are the result of a request over the files that were read: the report is
-- one of a session of the request, and the two are the result of the request in it. Each filter
-- that the program evaluates for it was looked up. The report shows a finding for each warning of
-- the load, unless a check refuses the files. In JSON the result of a list has objects.
pub record IsAnswer (request : Request) (gathered : Gathered) (report : Report) (status : ℕ)
    : Type 0 where
  pub session : Session
  pub begun : IsSessionOf request gathered session
  pub about : IsReportOf session report
  pub warned : ShowsWarningsIn session report status
  pub answers : AnswersQuestion request.question session report status
  pub looked_up : AreLookedUp session request.question
  pub objects : request.format ≡ formats.Json
      → HasObjectsFor session request.question report.content

-- A writer received the page of a result: known bytes grew by exactly the report, in the format and
-- on the paper of the request.
pub record Reports (request : Request) (gathered : Gathered) (status : ℕ)
    (old new : Option (List ℕ)) : Type 0 where
  pub report : Report
  pub is_answer : IsAnswer request gathered report status
  pub page : Appends old new (rendered report request.format request.paper)
