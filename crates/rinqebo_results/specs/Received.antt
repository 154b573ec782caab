-- What a writer received where a write may have failed.
use Rattle.std.specs.Prelude.{◌≡◌, ℕ, List, Option}
use Rattle.rinqebo_request.specs.declared.files.gathering.Gathered.{Gathered}
use Rattle.rinqebo_request.specs.declared.request.Request.{Request}
use Rattle.rinqebo_load.specs.declared.failure.Failure.{Failure}
use Rattle.rinqebo_report.specs.Rendered.{rendered}
use Rattle.rinqebo_report.specs.declared.format.Format.TheVariants as formats
use Rattle.rinqebo_report.specs.declared.report.Report.{Report}
use Rattle.rinqebo_results.specs.Answered.{Reports}
use Rattle.rinqebo_results.specs.Begun.{IsBegun}
use Rattle.rinqebo_results.specs.Prefixes.{AppendsPrefix}
use Rattle.rinqebo_results.specs.Refused.{IsReportOfFailure, ReportsRefusal}

-- A writer received a prefix of the document of a failure, where the request is for JSON.
pub record BeginsFailure (failure : Failure) (request : Request) (old new : Option (List ℕ))
    : Type 0 where
  pub is_json : request.format ≡ formats.Json
  pub report : Report
  pub reported : IsReportOfFailure failure report
  pub page : AppendsPrefix old new (rendered report request.format request.paper)

-- What standard output holds at the end of a run of a request in which no write fails: what it held
-- before, and then the page of a result, or the document of why there is none; or, where memory ran
-- out, the first tests of a list as text; or nothing.
pub data IsWhole (request : Request) (gathered : Gathered) (old whole : Option (List ℕ)) : Type 0
  where
    of_nothing : whole ≡ old → IsWhole request gathered old whole
    of_result : {status : ℕ} → Reports request gathered status old whole
        → IsWhole request gathered old whole
    of_failure : {status : ℕ} → ReportsRefusal request gathered status old whole
        → IsWhole request gathered old whole
    of_tests : IsBegun request gathered old whole → IsWhole request gathered old whole
