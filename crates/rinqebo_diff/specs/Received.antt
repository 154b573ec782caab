-- What standard output received of a diff where a write may have failed.
use Rattle.std.specs.Prelude.{◌≡◌, ℕ, List, Option}
use Rattle.rinqebo_changes.specs.declared.diff.Diff.{Diff}
use Rattle.rinqebo_request.specs.declared.files.gathering.Gathered.{Gathered}
use Rattle.rinqebo_results.specs.Prefixes.{AppendsPrefix}
use Rattle.rinqebo_results.specs.Received.{BeginsFailure}
use Rattle.rinqebo_diff.specs.Differences.{HasResult}
use Rattle.rinqebo_diff.specs.Statuses.{ReportsRefusal}
use Rattle.rinqebo_diff.specs.Written.{IsRendered}
use Rattle.rinqebo_diff.specs.declared.loaded.DiffFailure.{DiffFailure}
use Rattle.rinqebo_diff.specs.declared.loaded.DiffFailure.TheVariants as failures
use Rattle.rinqebo_diff.specs.declared.loaded.SideName.TheVariants as names
use Rattle.rinqebo_diff.specs.declared.request.DiffRequest.{DiffRequest}

-- A writer received a prefix of a diff in the format of a request, which may be all of it.
pub record BeginsDiff (request : DiffRequest) (diff : Diff) (before after : Option (List ℕ))
    : Type 0 where
  pub text : List ℕ
  pub is_text : IsRendered request diff text
  pub begun : AppendsPrefix before after text

-- a writer received a prefix of the document of why a side has no result
abbrev pub BeginsDiffFailure : DiffRequest → DiffFailure → Option (List ℕ) → Option (List ℕ)
    → Type 0
BeginsDiffFailure request (failures.Side names.From failure) old new =
    BeginsFailure failure request.from.request old new
BeginsDiffFailure request (failures.Side names.To failure) old new =
    BeginsFailure failure request.to.request old new
BeginsDiffFailure request failures.Memory old new = ⊥

-- What standard output holds at the end of a diff in which no write fails: what it held before, and
-- then what changes, in the format of the request, or the document of why a side has no result; or
-- nothing.
pub data IsWholeDiff (request : DiffRequest) (from to : Gathered) (old whole : Option (List ℕ))
    : Type 0 where
  of_nothing : whole ≡ old → IsWholeDiff request from to old whole
  of_result : {status : ℕ} → HasResult request from to status old whole
      → IsWholeDiff request from to old whole
  of_failure : {status : ℕ} → ReportsRefusal request from to status old whole
      → IsWholeDiff request from to old whole
