-- What standard error gets of a diff.
use Rattle.std.proofs.Common.{◌≡◌, ◌⊎◌, inl, inr, ℕ, List, Option, arith, subst}
use Rattle.std.specs.Io.KnownBytes.{Appends}
use Rattle.rinqebo_changes.specs.declared.diff.Diff.{Diff}
use Rattle.rinqebo_request.specs.declared.files.gathering.Gathered.{Gathered}
use Rattle.rinqebo_request.specs.declared.request.Request.{Request}
use Rattle.rinqebo_load.specs.declared.failure.Failure.{Failure}
use Rattle.rinqebo_report.specs.declared.report.Report.{Report}
use Rattle.rinqebo_results.specs.StandardError.{GetsReason, memory_message}
use Rattle.rinqebo_diff.proofs.Failing.{low_status}
use Rattle.rinqebo_diff.specs.Differences.{diff_status}
use Rattle.rinqebo_diff.specs.Failing.{DiffFails}
use Rattle.rinqebo_diff.specs.StandardError.{GetsDiffErrors, GetsDiffReason, GetsFindings, GetsSideReason, IsReportOfSide, findings_beside, of_failure, of_result, side_line}
use Rattle.rinqebo_diff.specs.declared.loaded.DiffFailure.{DiffFailure}
use Rattle.rinqebo_diff.specs.declared.loaded.DiffFailure.TheVariants as failures
use Rattle.rinqebo_diff.specs.declared.loaded.SideName.{SideName}
use Rattle.rinqebo_diff.specs.declared.request.DiffRequest.{DiffRequest}

-- a text went out, since its write did not fail
went_out : {X : Type 0} (n : ℕ) → n ≡ 0 → (n ≡ 6) ⊎ X → X
went_out n none (inl six) = absurd (omega arith)
went_out n none (inr adds) = adds

-- the findings of a report went out
pub findings_told : (request : DiffRequest) (diff : Diff) (report : Report) (n : ℕ) (old new : Option (List ℕ))
    (shown text : List ℕ) → shown ≡ text → text ≡ findings_beside request.format request.paper.colour report
    → (n ≡ 6) ⊎ ((n ≡ diff_status diff) × Appends old new shown)
    → (n ≡ 6) ⊎ GetsFindings request diff report n old new
findings_told request diff report n old new shown text same is (inl six) = inl six
findings_told request diff report n old new shown text same is (inr told) =
    inr (inl (told.0, subst (Appends old new) is (subst (Appends old new) same told.1)))

-- the line of a side went out, and then the reason
pub side_told : (name : SideName) (failure : Failure) (request : Request) (n told : ℕ) (old named new : Option (List ℕ))
    (shown : List ℕ) → told ≡ 0 → shown ≡ side_line name → (told ≡ 6) ⊎ Appends old named shown
    → (n ≡ 6) ⊎ GetsReason failure request n named new → (n ≡ 6) ⊎ GetsSideReason name failure request n old new
side_told name failure request n told old named new shown none is line (inl six) = inl six
side_told name failure request n told old named new shown none is line (inr reason) =
    inr (record { named = named; line = subst (Appends old named) is (went_out told none line); reason = reason })

-- what standard error gets of a result
pub of_answer : (request : DiffRequest) (from to : Gathered) (diff : Diff) (report : Report) (n : ℕ)
    (old mid new : Option (List ℕ)) → mid ≡ old → IsReportOfSide request.to to report
    → (n ≡ 6) ⊎ GetsFindings request diff report n mid new → (n ≡ 6) ⊎ GetsDiffErrors request from to n old new
of_answer request from to diff report n old mid new same is (inl six) = inl six
of_answer request from to diff report n old mid new same is (inr (inl told)) =
    inr (of_result report (omega (arith, low_status diff, told.0)) is
    (subst (λ o. Appends o new (findings_beside request.format request.paper.colour report)) same told.1))
of_answer request from to diff report n old mid new same is (inr (inr memory)) =
    inr (of_failure failures.Memory tt (memory.0, subst (λ o. Appends o new memory_message) same memory.1))

-- what standard error gets of the reason why there is no result
pub of_reason : (request : DiffRequest) (from to : Gathered) (failure : DiffFailure) (n : ℕ)
    (old mid new : Option (List ℕ)) → mid ≡ old → DiffFails request from to failure
    → (n ≡ 6) ⊎ GetsDiffReason request failure n mid new → (n ≡ 6) ⊎ GetsDiffErrors request from to n old new
of_reason request from to failure n old mid new same fails (inl six) = inl six
of_reason request from to failure n old mid new same fails (inr reason) =
    inr (of_failure failure fails (subst (λ o. GetsDiffReason request failure n o new) same reason))
