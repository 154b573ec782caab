-- What standard error gets of a diff whose progress is not shown: the findings of the right side,
-- or the reason why a side has no result.
use Rattle.std.specs.Prelude.{◌≡◌, ◌++◌, ◌∷◌, ◌⊎◌, ◌≤◌, ℕ, List, [], Option, codes}
use Rattle.std.specs.Io.KnownBytes.{Appends}
use Rattle.rinqebo_changes.specs.declared.diff.Diff.{Diff}
use Rattle.rinqebo_request.specs.declared.files.gathering.Gathered.{Gathered}
use Rattle.rinqebo_request.specs.declared.request.Request.{Request}
use Rattle.rinqebo_load.specs.declared.failure.Failure.{Failure}
use Rattle.rinqebo_report.specs.Pages.{findings_runs}
use Rattle.rinqebo_report.specs.Pieces.{page_text}
use Rattle.rinqebo_report.specs.declared.piece.Colour.{Colour}
use Rattle.rinqebo_report.specs.declared.report.Report.{Report}
use Rattle.rinqebo_results.specs.StandardError.{GetsReason, memory_message}
use Rattle.rinqebo_diff.specs.Differences.{diff_status}
use Rattle.rinqebo_diff.specs.Failing.{DiffFails}
use Rattle.rinqebo_diff.specs.Loaded.{IsLoadedSide}
use Rattle.rinqebo_diff.specs.declared.loaded.DiffFailure.{DiffFailure}
use Rattle.rinqebo_diff.specs.declared.loaded.DiffFailure.TheVariants as failures
use Rattle.rinqebo_diff.specs.declared.loaded.Loaded.{Loaded}
use Rattle.rinqebo_diff.specs.declared.loaded.SideName.{SideName}
use Rattle.rinqebo_diff.specs.declared.loaded.SideName.TheVariants as names
use Rattle.rinqebo_diff.specs.declared.request.DiffFormat.{DiffFormat}
use Rattle.rinqebo_diff.specs.declared.request.DiffFormat.TheVariants.{Text, Json, Github, Markdown}
use Rattle.rinqebo_diff.specs.declared.request.DiffRequest.{DiffRequest}
use Rattle.rinqebo_diff.specs.declared.request.DiffSide.{DiffSide}

-- the line that names the side that has no result
abbrev pub side_line : SideName → List ℕ
side_line names.From = codes "note: no result for the left side (`from`):" ++ 10 ∷ []
side_line names.To = codes "note: no result for the right side (`to`):" ++ 10 ∷ []

-- the page of the findings of a report, beside a diff in a format: a document of JSON has nothing
-- beside it
abbrev pub findings_beside : DiffFormat → Colour → Report → List ℕ
findings_beside Text ink report = page_text ink (findings_runs report)
findings_beside Json ink report = []
findings_beside (Github workspace) ink report = page_text ink (findings_runs report)
findings_beside Markdown ink report = page_text ink (findings_runs report)

-- A report is that of a side that is loaded.
pub record IsReportOfSide (side : DiffSide) (gathered : Gathered) (report : Report) : Type 0 where
  pub loaded : Loaded
  pub is_loaded : IsLoadedSide side gathered loaded
  pub is_report : report ≡ loaded.report

-- What standard error gets of a diff that has a result, by the status: the page of the findings of
-- a report, or that memory ran out.
abbrev pub GetsFindings : DiffRequest → Diff → Report → ℕ → Option (List ℕ) → Option (List ℕ)
    → Type 0
GetsFindings request diff report status old new =
    ((status ≡ diff_status diff)
    × Appends old new (findings_beside request.format request.paper.colour report))
    ⊎ ((status ≡ 5) × Appends old new memory_message)

-- What standard error gets of a side that has no result, by the status: the line that names the
-- side, and then the reason.
pub record GetsSideReason (name : SideName) (failure : Failure) (request : Request) (status : ℕ)
    (old new : Option (List ℕ)) : Type 0 where
  pub named : Option (List ℕ)
  pub line : Appends old named (side_line name)
  pub reason : GetsReason failure request status named new

-- what standard error gets of a diff that has no result, by the status
abbrev pub GetsDiffReason : DiffRequest → DiffFailure → ℕ → Option (List ℕ) → Option (List ℕ)
    → Type 0
GetsDiffReason request (failures.Side names.From failure) status old new =
    GetsSideReason names.From failure request.from.request status old new
GetsDiffReason request (failures.Side names.To failure) status old new =
    GetsSideReason names.To failure request.to.request status old new
GetsDiffReason request failures.Memory status old new =
    (status ≡ 5) × Appends old new memory_message

-- What standard error gets of a diff, by its status, if no write fails and no progress is shown:
-- the page of the findings of the right side; or the reason why there is no result, which may be
-- that memory ran out.
pub data GetsDiffErrors (request : DiffRequest) (from to : Gathered) (status : ℕ)
    (old new : Option (List ℕ)) : Type 0 where
  of_result : (report : Report) → status ≤ 1 → IsReportOfSide request.to to report
      → Appends old new (findings_beside request.format request.paper.colour report)
      → GetsDiffErrors request from to status old new
  of_failure : (failure : DiffFailure) → DiffFails request from to failure
      → GetsDiffReason request failure status old new
      → GetsDiffErrors request from to status old new
