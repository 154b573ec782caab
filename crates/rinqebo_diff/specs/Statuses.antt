-- The exit statuses of a diff that has no result, and what is written of it.
use Rattle.std.specs.Prelude.{◌≡◌, ◌⊎◌, ℕ, List, Option}
use Rattle.rinqebo_request.specs.declared.files.gathering.Gathered.{Gathered}
use Rattle.rinqebo_report.specs.declared.format.Format.TheVariants as formats
use Rattle.rinqebo_results.specs.Refused.{ReportsFailure}
use Rattle.rinqebo_results.specs.Statuses.{failure_status}
use Rattle.rinqebo_diff.specs.Failing.{DiffFails}
use Rattle.rinqebo_diff.specs.declared.loaded.DiffFailure.{DiffFailure}
use Rattle.rinqebo_diff.specs.declared.loaded.DiffFailure.TheVariants as failures
use Rattle.rinqebo_diff.specs.declared.loaded.SideName.TheVariants as names
use Rattle.rinqebo_diff.specs.declared.request.DiffRequest.{DiffRequest}

-- the exit status of a diff that has no result
abbrev pub diff_failure_status : DiffFailure → ℕ
diff_failure_status (failures.Side name failure) = failure_status failure
diff_failure_status failures.Memory = 5

-- an exit status is that of a failure, unless memory runs out or a write fails
abbrev pub HasFailureStatus : DiffFailure → ℕ → Type 0
HasFailureStatus failure n = (n ≡ diff_failure_status failure) ⊎ (n ≡ 5) ⊎ (n ≡ 6)

-- a writer received the document of why a side has no result
abbrev pub ReportsDiffFailure : DiffRequest → DiffFailure → ℕ → Option (List ℕ)
    → Option (List ℕ) → Type 0
ReportsDiffFailure request (failures.Side names.From failure) status old new =
    ReportsFailure failure request.from.request status old new
ReportsDiffFailure request (failures.Side names.To failure) status old new =
    ReportsFailure failure request.to.request status old new
ReportsDiffFailure request failures.Memory status old new = ⊥

-- A writer received the document of why a request has no result.
pub record ReportsRefusal (request : DiffRequest) (from to : Gathered) (status : ℕ)
    (old new : Option (List ℕ)) : Type 0 where
  pub failure : DiffFailure
  pub fails : DiffFails request from to failure
  pub document : ReportsDiffFailure request failure status old new

-- The requests of both sides are for JSON.
pub record AreForJson (request : DiffRequest) : Type 0 where
  pub from : request.from.request.format ≡ formats.Json
  pub to : request.to.request.format ≡ formats.Json
