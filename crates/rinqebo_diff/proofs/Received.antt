-- What standard output received of a diff where a write may have failed.
use Rattle.std.proofs.Common.{◌≡◌, ◌⊎◌, inl, inr, ℕ, List, [], Option, refl, subst}
use Rattle.std.proofs.KnownBytes.{Appends-nil}
use Rattle.rinqebo_changes.specs.declared.diff.Diff.{Diff}
use Rattle.rinqebo_request.specs.declared.files.gathering.Gathered.{Gathered}
use Rattle.rinqebo_request.specs.declared.request.Request.{Request}
use Rattle.rinqebo_load.specs.declared.failure.Failure.{Failure}
use Rattle.rinqebo_report.specs.Rendered.{rendered}
use Rattle.rinqebo_results.proofs.Prefixes.{received_none, received_text}
use Rattle.rinqebo_results.specs.Prefixes.{AppendsPrefix, ReceivesPrefix}
use Rattle.rinqebo_results.specs.Received.{BeginsFailure}
use Rattle.rinqebo_results.specs.Refused.{ReportsFailure}
use Rattle.rinqebo_results.specs.Statuses.{failure_status}
use Rattle.rinqebo_diff.specs.Differences.{Differs, diff_status}
use Rattle.rinqebo_diff.specs.Failing.{DiffFails}
use Rattle.rinqebo_diff.specs.Received.{BeginsDiff, BeginsDiffFailure, IsWholeDiff, of_nothing, of_result, of_failure}
use Rattle.rinqebo_diff.specs.Statuses.{ReportsDiffFailure}
use Rattle.rinqebo_diff.specs.Written.{IsRendered}
use Rattle.rinqebo_diff.specs.declared.loaded.DiffFailure.{DiffFailure}
use Rattle.rinqebo_diff.specs.declared.loaded.DiffFailure.TheVariants as failures
use Rattle.rinqebo_diff.specs.declared.loaded.SideName.TheVariants as names
use Rattle.rinqebo_diff.specs.declared.request.DiffRequest.{DiffRequest}

-- a prefix of the text of a diff
pub diff_begun : (request : DiffRequest) (diff : Diff) (text shown : List ℕ) (old new : Option (List ℕ))
    → IsRendered request diff text → shown ≡ text → (new ≡ old) ⊎ AppendsPrefix old new shown
    → (new ≡ old) ⊎ BeginsDiff request diff old new
diff_begun request diff text shown old new is same (inl kept) = inl kept
diff_begun request diff text shown old new is same (inr begun) =
    inr (record { text = text; is_text = is; begun = subst (AppendsPrefix old new) same begun })

module _ (request : DiffRequest) (from to : Gathered) (old new : Option (List ℕ)) where
  -- a prefix of what changes
  pub answer_begun : (diff : Diff) → Differs request from to diff → (new ≡ old) ⊎ BeginsDiff request diff old new
      → ReceivesPrefix (IsWholeDiff request from to old) old new
  answer_begun diff differs (inl same) =
      received_none (IsWholeDiff request from to old) old new same (of_nothing refl)
  answer_begun diff differs (inr begins) =
      received_text (IsWholeDiff request from to old) old old new begins.text ([], Appends-nil old) begins.begun
      (λ whole page. of_result {status = diff_status diff} (record {
        diff = diff;
        differs = differs;
        is_status = refl;
        page = record { text = begins.text; is_text = begins.is_text; appended = page };
      }))

  -- a prefix of the document of a side
  side_begun : (failure : DiffFailure) (side : Request) (cause : Failure) → DiffFails request from to failure
      → ((status : ℕ) (whole : Option (List ℕ)) → ReportsFailure cause side status old whole
      → ReportsDiffFailure request failure status old whole)
      → BeginsFailure cause side old new → ReceivesPrefix (IsWholeDiff request from to old) old new
  side_begun failure side cause fails reports begins =
      received_text (IsWholeDiff request from to old) old old new (rendered begins.report side.format side.paper)
      ([], Appends-nil old) begins.page
      (λ whole page. of_failure {status = failure_status cause} (record {
        failure = failure;
        fails = fails;
        document = reports (failure_status cause) whole (record {
          is_json = begins.is_json;
          status_is = refl;
          report = begins.report;
          reported = begins.reported;
          page = page;
        });
      }))

  -- a prefix of the document of why there is no result
  pub failure_begun : (failure : DiffFailure) → DiffFails request from to failure
      → (new ≡ old) ⊎ BeginsDiffFailure request failure old new
      → ReceivesPrefix (IsWholeDiff request from to old) old new
  failure_begun failure fails (inl same) =
      received_none (IsWholeDiff request from to old) old new same (of_nothing refl)
  failure_begun (failures.Side names.From cause) fails (inr begins) =
      side_begun (failures.Side names.From cause) request.from.request cause fails
      (λ status whole reports. reports) begins
  failure_begun (failures.Side names.To cause) fails (inr begins) =
      side_begun (failures.Side names.To cause) request.to.request cause fails
      (λ status whole reports. reports) begins
  failure_begun failures.Memory fails (inr begins) = absurd begins
