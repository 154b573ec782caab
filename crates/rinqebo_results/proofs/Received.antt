-- What standard output received where a write may have failed.
use Rattle.std.proofs.Common.{◌≡◌, ◌⊎◌, ◌++◌, inl, inr, ℕ, List, [], Option, refl}
use Rattle.std.proofs.KnownBytes.{Appends-nil}
use Rattle.std.specs.Io.KnownBytes.{Appends}
use Rattle.rinqebo_request.specs.declared.files.gathering.Gathered.{Gathered}
use Rattle.rinqebo_request.specs.declared.request.Question.{Question}
use Rattle.rinqebo_request.specs.declared.request.Question.TheVariants as questions
use Rattle.rinqebo_request.specs.declared.request.Request.{Request}
use Rattle.rinqebo_load.specs.declared.failure.Failure.{Failure}
use Rattle.rinqebo_load.specs.declared.session.Session.{Session}
use Rattle.rinqebo_report.specs.Headers.{list_head_runs}
use Rattle.rinqebo_report.specs.Pieces.{page_text}
use Rattle.rinqebo_report.specs.Rendered.{rendered}
use Rattle.rinqebo_report.specs.declared.format.Format.TheVariants as formats
use Rattle.rinqebo_report.specs.declared.layout.Paper.{Paper}
use Rattle.rinqebo_report.specs.declared.report.Report.{Report}
use Rattle.rinqebo_results.proofs.Prefixes.{received_none, received_page, received_so, received_text, received_whole}
use Rattle.rinqebo_results.specs.Answered.{IsAnswer, Reports}
use Rattle.rinqebo_results.specs.Begun.{tests_text, BeginsPage, IsBegun}
use Rattle.rinqebo_results.specs.Prefixes.{AppendsPrefix, Grows, ReceivesPrefix}
use Rattle.rinqebo_results.specs.Received.{BeginsFailure, IsWhole, of_nothing, of_result, of_failure, of_tests}
use Rattle.rinqebo_results.specs.Refused.{Fails, IsReportOfFailure}
use Rattle.rinqebo_results.specs.Statuses.{failure_status}
use Rattle.rinqebo_results.specs.Written.{IsListed, StopsList}
use Rattle.rinqebo_results.specs.declared.list_stop.ListStop.{ListStop}
use Rattle.rinqebo_results.specs.declared.list_stop.ListStop.TheVariants as faults

-- a prefix of the document of a failure
pub document_begun : (failure : Failure) (request : Request) (report : Report) (old new : Option (List ℕ))
    → request.format ≡ formats.Json → IsReportOfFailure failure report
    → (new ≡ old) ⊎ AppendsPrefix old new (rendered report request.format request.paper)
    → (new ≡ old) ⊎ BeginsFailure failure request old new
document_begun failure request report old new json reported (inl same) = inl same
document_begun failure request report old new json reported (inr prefix) =
    inr (record { is_json = json; report = report; reported = reported; page = prefix })

-- the first tests of a list are behind what a writer held
begun_grows : (q : Question) (session : Session) (paper : Paper) (old new : Option (List ℕ))
    → BeginsPage q session paper old new → Grows old new
begun_grows (questions.List profile mode list asked) session paper old new begins =
    let first = begins.first in (
      page_text paper.colour (list_head_runs paper.columns first.header) ++ tests_text first.head paper first.tests,
      first.page,
    )
begun_grows _ session paper old new begins = absurd begins

module _ (request : Request) (gathered : Gathered) (old new : Option (List ℕ)) where
  -- a prefix of the page of a result
  pub answer_begun : (report : Report) (status : ℕ) → IsAnswer request gathered report status
      → (new ≡ old) ⊎ AppendsPrefix old new (rendered report request.format request.paper)
      → ReceivesPrefix (IsWhole request gathered old) old new
  answer_begun report status answer begun =
      received_page (IsWhole request gathered old) old new (rendered report request.format request.paper)
      (of_nothing refl)
      (λ whole page. of_result {status = status} (record { report = report; is_answer = answer; page = page })) begun

  -- a prefix of the document of why there is no result
  pub failure_begun : (failure : Failure) → Fails request gathered failure
      → (new ≡ old) ⊎ BeginsFailure failure request old new → ReceivesPrefix (IsWhole request gathered old) old new
  failure_begun failure fails (inl same) =
      received_none (IsWhole request gathered old) old new same (of_nothing refl)
  failure_begun failure fails (inr begins) =
      received_text (IsWhole request gathered old) old old new (rendered begins.report request.format request.paper)
      ([], Appends-nil old) begins.page
      (λ whole page. of_failure {status = failure_status failure} (record {
        failure = failure;
        fails = fails;
        tells = record {
          is_json = begins.is_json;
          status_is = refl;
          report = begins.report;
          reported = begins.reported;
          page = page;
        };
      }))

  -- all of a list
  pub list_received : Reports request gathered 0 old new → ReceivesPrefix (IsWhole request gathered old) old new
  list_received reports =
      received_whole (IsWhole request gathered old) old new (of_result {status = 0} reports)
      (rendered reports.report request.format request.paper, reports.page)

  listed_whole : (whole : Option (List ℕ)) → IsListed (IsBegun request gathered old) (Reports request gathered 0 old) old whole
      → IsWhole request gathered old whole
  listed_whole whole (inl same) = of_nothing same
  listed_whole whole (inr (inl begun)) = of_tests begun
  listed_whole whole (inr (inr reports)) = of_result {status = 0} reports

  -- a prefix of a list that was not written whole
  pub stop_begun : (fault : ListStop)
      → StopsList (Fails request gathered) (IsBegun request gathered old) (Reports request gathered 0 old) old new fault
      → ReceivesPrefix (IsWhole request gathered old) old new
  stop_begun (faults.Refused failure) stop =
      received_none (IsWhole request gathered old) old new stop.1 (of_nothing refl)
  stop_begun faults.Memory (inl begun) =
      received_whole (IsWhole request gathered old) old new (of_tests begun)
      (begun_grows request.question begun.session request.paper old new begun.page)
  stop_begun faults.Memory (inr same) =
      received_none (IsWhole request gathered old) old new same (of_nothing refl)
  stop_begun faults.Write stop =
      received_so (IsListed (IsBegun request gathered old) (Reports request gathered 0 old) old)
      (IsWhole request gathered old) old new listed_whole stop
