-- Why a diff has no result, and the exit statuses.
use Rattle.std.proofs.Common.{◌≡◌, ◌∙◌, ◌≤◌, ◌⊎◌, inl, inr, ℕ, Bool, true, false, if◌then◌else◌, List, Option, Result, Ok, Err, IfErr, IsErrAnd, arith, subst, sym}
use Rattle.std.specs.Io.KnownBytes.{Appends}
use Rattle.rinqebo_changes.specs.Diffs.{is_empty}
use Rattle.rinqebo_changes.specs.declared.diff.Diff.{Diff}
use Rattle.rinqebo_request.specs.declared.files.gathering.Gathered.{Gathered}
use Rattle.rinqebo_load.specs.Beginning.{IsUnusable}
use Rattle.rinqebo_load.specs.SessionOf.{IsSessionOf}
use Rattle.rinqebo_load.specs.declared.failure.Failure.{Failure}
use Rattle.rinqebo_load.specs.declared.failure.Failure.TheVariants as causes
use Rattle.rinqebo_load.specs.declared.session.Session.{Session}
use Rattle.rinqebo_results.specs.LookedUp.{IsFailureOn}
use Rattle.rinqebo_results.specs.Statuses.{failure_status}
use Rattle.rinqebo_diff.specs.Differences.{Differs, diff_status, HasResult}
use Rattle.rinqebo_diff.specs.Failing.{SideFails, FailsAt, Loads, DiffFails, IsRefusedSide, HasUsageFailure, LacksItsProfile, HasCause}
use Rattle.rinqebo_diff.specs.Statuses.{diff_failure_status, HasFailureStatus, ReportsDiffFailure, ReportsRefusal}
use Rattle.rinqebo_diff.specs.Written.{IsRendered, ReportsDiff}
use Rattle.rinqebo_diff.specs.declared.loaded.DiffFailure.{DiffFailure}
use Rattle.rinqebo_diff.specs.declared.loaded.DiffFailure.TheVariants as failures
use Rattle.rinqebo_diff.specs.declared.loaded.SideName.TheVariants as names
use Rattle.rinqebo_diff.specs.declared.request.DiffRequest.{DiffRequest}
use Rattle.rinqebo_diff.specs.declared.request.DiffSide.{DiffSide}

-- what holds of a failure holds of it when it is passed on
pub handed_on : {A E : Type 0} (P : E → Type 0) (r : Result A E) (failure : E)
    → IsErrAnd r (λ other. other ≡ failure) → P failure → IfErr r P
handed_on P (Ok a) failure same is = tt
handed_on P (Err other) failure same is = subst P (sym same) is

-- what all commands begin with fails
pub begins_not : {A : Type 0} (side : DiffSide) (gathered : Gathered) (r : Result A Failure) (failure : Failure)
    → IsErrAnd r (λ other. other ≡ failure) → IsUnusable side.request gathered failure → IfErr r (SideFails side gathered)
begins_not side gathered r failure same is = handed_on (SideFails side gathered) r failure same (inl is)

-- memory runs out
pub side_wants : {A : Type 0} (side : DiffSide) (gathered : Gathered) (r : Result A Failure)
    → IsErrAnd r (λ other. other ≡ causes.Memory) → IfErr r (SideFails side gathered)
side_wants side gathered r same = handed_on (SideFails side gathered) r causes.Memory same (inl tt)

-- a session has no result
pub session_fails : {A : Type 0} (side : DiffSide) (gathered : Gathered) (session : Session) (r : Result A Failure)
    (failure : Failure) → IsErrAnd r (λ other. other ≡ failure) → IsSessionOf side.request gathered session
    → IsFailureOn session side.profile.now failure → IfErr r (SideFails side gathered)
session_fails side gathered session r failure same begun cause =
    handed_on (SideFails side gathered) r failure same
    (inr (record { session = session; begun = begun; cause = cause }))

-- a failure of a side is one of the diff
as_left : (request : DiffRequest) (from to : Gathered) (failure : DiffFailure)
    → FailsAt names.From request.from from failure → DiffFails request from to failure
as_left request from to (failures.Side names.From failure) fails = fails.1
as_left request from to (failures.Side names.To failure) fails =
    let no : names.To ≡ names.From = fails.0 in absurd (cc)
as_left request from to failures.Memory fails = tt

as_right : (request : DiffRequest) (from to : Gathered) (failure : DiffFailure) → Loads request.from from
    → FailsAt names.To request.to to failure → DiffFails request from to failure
as_right request from to (failures.Side names.From failure) loads fails =
    let no : names.From ≡ names.To = fails.0 in absurd (cc)
as_right request from to (failures.Side names.To failure) loads fails = (loads, fails.1)
as_right request from to failures.Memory loads fails = tt

pub left_fails : {A : Type 0} (request : DiffRequest) (from to : Gathered) (r : Result A DiffFailure)
    (failure : DiffFailure) → IsErrAnd r (λ other. other ≡ failure) → FailsAt names.From request.from from failure
    → IfErr r (DiffFails request from to)
left_fails request from to r failure same fails =
    handed_on (DiffFails request from to) r failure same (as_left request from to failure fails)

pub right_fails : {A : Type 0} (request : DiffRequest) (from to : Gathered) (r : Result A DiffFailure)
    (failure : DiffFailure) → IsErrAnd r (λ other. other ≡ failure) → Loads request.from from
    → FailsAt names.To request.to to failure → IfErr r (DiffFails request from to)
right_fails request from to r failure same loads fails =
    handed_on (DiffFails request from to) r failure same (as_right request from to failure loads fails)

-- a diff has no result since memory ran out
pub diff_wants : {A : Type 0} (request : DiffRequest) (from to : Gathered) (r : Result A DiffFailure)
    → IsErrAnd r (λ other. other ≡ failures.Memory) → IfErr r (DiffFails request from to)
diff_wants request from to r same = handed_on (DiffFails request from to) r failures.Memory same tt

-- a failure of status 3 is that files are refused
refused_for : (side : DiffSide) (gathered : Gathered) (failure : Failure) → SideFails side gathered failure
    → failure_status failure ≡ 3 → IsRefusedSide side gathered
refused_for side gathered (causes.Engines fault) fails three = absurd (omega arith)
refused_for side gathered (causes.Refused report) (inl begins) three = absurd begins
refused_for side gathered (causes.Refused report) (inr fails) three = record {
  session = fails.session;
  begun = fails.begun;
  broken = fails.cause.0;
}
refused_for side gathered (causes.NoProfile report) fails three = absurd (omega arith)
refused_for side gathered (causes.NoTest report) fails three = absurd (omega arith)
refused_for side gathered (causes.SeveralTests report) fails three = absurd (omega arith)
refused_for side gathered causes.Memory fails three = absurd (omega arith)

-- a failure of status 4 is that files lack the profile
lacking_for : (side : DiffSide) (gathered : Gathered) (failure : Failure) → SideFails side gathered failure
    → failure_status failure ≡ 4 → LacksItsProfile side gathered
lacking_for side gathered (causes.Engines fault) fails four = absurd (omega arith)
lacking_for side gathered (causes.Refused report) fails four = absurd (omega arith)
lacking_for side gathered (causes.NoProfile report) (inl begins) four = absurd begins
lacking_for side gathered (causes.NoProfile report) (inr fails) four = record {
  session = fails.session;
  begun = fails.begun;
  lacks = fails.cause.0;
}
lacking_for side gathered (causes.NoTest report) (inl begins) four = absurd begins
lacking_for side gathered (causes.NoTest report) (inr fails) four = absurd fails.cause
lacking_for side gathered (causes.SeveralTests report) fails four = absurd (omega arith)
lacking_for side gathered causes.Memory fails four = absurd (omega arith)

refused_in : (request : DiffRequest) (from to : Gathered) (failure : DiffFailure) → DiffFails request from to failure
    → diff_failure_status failure ≡ 3 → IsRefusedSide request.from from ⊎ IsRefusedSide request.to to
refused_in request from to (failures.Side names.From failure) fails three = inl (refused_for request.from from failure fails three)
refused_in request from to (failures.Side names.To failure) fails three = inr (refused_for request.to to failure fails.1 three)
refused_in request from to failures.Memory fails three = absurd (omega arith)

lacking_in : (request : DiffRequest) (from to : Gathered) (failure : DiffFailure) → DiffFails request from to failure
    → diff_failure_status failure ≡ 4 → LacksItsProfile request.from from ⊎ LacksItsProfile request.to to
lacking_in request from to (failures.Side names.From failure) fails four = inl (lacking_for request.from from failure fails four)
lacking_in request from to (failures.Side names.To failure) fails four = inr (lacking_for request.to to failure fails.1 four)
lacking_in request from to failures.Memory fails four = absurd (omega arith)

-- a failure of status 2 is that a side cannot be used
unusable_in : (request : DiffRequest) (from to : Gathered) (failure : DiffFailure) → DiffFails request from to failure
    → diff_failure_status failure ≡ 2 → HasUsageFailure request.from from ⊎ HasUsageFailure request.to to
unusable_in request from to (failures.Side names.From failure) fails two =
    inl (record { failure = failure; is_status = two; fails = fails })
unusable_in request from to (failures.Side names.To failure) fails two =
    inr (record { failure = failure; is_status = two; fails = fails.1 })
unusable_in request from to failures.Memory fails two = absurd (omega arith)

-- the status of a diff with no result has its cause
pub failure_cause : (request : DiffRequest) (from to : Gathered) (failure : DiffFailure) (n : ℕ)
    → DiffFails request from to failure → HasFailureStatus failure n → HasCause request from to n
failure_cause request from to failure n fails (inl same) = record {
  unusable = λ two. unusable_in request from to failure fails (sym same ∙ two);
  refused = λ three. refused_in request from to failure fails (sym same ∙ three);
  lacking = λ four. lacking_in request from to failure fails (sym same ∙ four);
}
failure_cause request from to failure n fails (inr (inl five)) = record {
  unusable = λ two. absurd (omega arith);
  refused = λ three. absurd (omega arith);
  lacking = λ four. absurd (omega arith);
}
failure_cause request from to failure n fails (inr (inr six)) = record {
  unusable = λ two. absurd (omega arith);
  refused = λ three. absurd (omega arith);
  lacking = λ four. absurd (omega arith);
}

-- the statuses of failures
low_side : (failure : Failure) → failure_status failure ≤ 5
low_side (causes.Engines fault) = omega arith
low_side (causes.Refused report) = omega arith
low_side (causes.NoProfile report) = omega arith
low_side (causes.NoTest report) = omega arith
low_side (causes.SeveralTests report) = omega arith
low_side causes.Memory = omega arith

high_side : (failure : Failure) → 2 ≤ failure_status failure
high_side (causes.Engines fault) = omega arith
high_side (causes.Refused report) = omega arith
high_side (causes.NoProfile report) = omega arith
high_side (causes.NoTest report) = omega arith
high_side (causes.SeveralTests report) = omega arith
high_side causes.Memory = omega arith

low_diff : (failure : DiffFailure) → diff_failure_status failure ≤ 5
low_diff (failures.Side name failure) = low_side failure
low_diff failures.Memory = omega arith

high_diff : (failure : DiffFailure) → 2 ≤ diff_failure_status failure
high_diff (failures.Side name failure) = high_side failure
high_diff failures.Memory = omega arith

pub failure_low : (failure : DiffFailure) (n : ℕ) → HasFailureStatus failure n → n ≤ 6
failure_low failure n (inl same) = omega (arith, low_diff failure)
failure_low failure n (inr (inl five)) = omega arith
failure_low failure n (inr (inr six)) = omega arith

pub failure_high : (failure : DiffFailure) (n : ℕ) → HasFailureStatus failure n → 2 ≤ n
failure_high failure n (inl same) = omega (arith, high_diff failure)
failure_high failure n (inr (inl five)) = omega arith
failure_high failure n (inr (inr six)) = omega arith

-- the status of a diff
low_empty : (b : Bool) → (if b then 0 else 1) ≤ 1
low_empty true = omega arith
low_empty false = omega arith

pub low_status : (diff : Diff) → diff_status diff ≤ 1
low_status diff = low_empty (is_empty diff)

pub answer_low : (diff : Diff) (n : ℕ) → (n ≡ diff_status diff) ⊎ (n ≡ 5) ⊎ (n ≡ 6) → n ≤ 6
answer_low diff n (inl same) = omega (arith, low_status diff)
answer_low diff n (inr (inl five)) = omega arith
answer_low diff n (inr (inr six)) = omega arith

-- a status of a result is that of the diff
pub answer_same : (diff : Diff) (n : ℕ) → n ≤ 1 → (n ≡ diff_status diff) ⊎ (n ≡ 5) ⊎ (n ≡ 6) → n ≡ diff_status diff
answer_same diff n low (inl same) = same
answer_same diff n low (inr (inl five)) = absurd (omega arith)
answer_same diff n low (inr (inr six)) = absurd (omega arith)

answer_reported : {X : Type 0} (n : ℕ) → n ≤ 1 → (n ≡ 5) ⊎ (n ≡ 6) ⊎ X → X
answer_reported n low (inl five) = absurd (omega arith)
answer_reported n low (inr (inl six)) = absurd (omega arith)
answer_reported n low (inr (inr reported)) = reported

-- a result
pub has_result : (request : DiffRequest) (from to : Gathered) (diff : Diff) (n : ℕ) (old new : Option (List ℕ))
    → Differs request from to diff → (n ≡ diff_status diff) ⊎ (n ≡ 5) ⊎ (n ≡ 6)
    → (n ≡ 5) ⊎ (n ≡ 6) ⊎ ReportsDiff request diff old new → n ≤ 1 → HasResult request from to n old new
has_result request from to diff n old new differs status page low = record {
  diff = diff;
  differs = differs;
  is_status = answer_same diff n low status;
  page = answer_reported n low page;
}

pub answer_quiet : {A B : Type 0} (diff : Diff) (n : ℕ) → (n ≡ diff_status diff) ⊎ (n ≡ 6) ⊎ A
    → (n ≤ 1) ⊎ (n ≡ 6) ⊎ A ⊎ B
answer_quiet diff n (inl same) = inl (omega (arith, low_status diff))
answer_quiet diff n (inr (inl six)) = inr (inl six)
answer_quiet diff n (inr (inr quiet)) = inr (inr (inl quiet))

pub answer_cause : (request : DiffRequest) (from to : Gathered) (diff : Diff) (n : ℕ)
    → (n ≡ diff_status diff) ⊎ (n ≡ 5) ⊎ (n ≡ 6) → HasCause request from to n
answer_cause request from to diff n (inl same) =
    let low : diff_status diff ≤ 1 = low_status diff in
    record {
      unusable = λ two. absurd (omega arith);
      refused = λ three. absurd (omega arith);
      lacking = λ four. absurd (omega arith);
    }
answer_cause request from to diff n (inr (inl five)) = record {
  unusable = λ two. absurd (omega arith);
  refused = λ three. absurd (omega arith);
  lacking = λ four. absurd (omega arith);
}
answer_cause request from to diff n (inr (inr six)) = record {
  unusable = λ two. absurd (omega arith);
  refused = λ three. absurd (omega arith);
  lacking = λ four. absurd (omega arith);
}

pub failure_quiet : (request : DiffRequest) (from to : Gathered) (failure : DiffFailure) (n : ℕ) (old new : Option (List ℕ))
    → DiffFails request from to failure
    → (n ≡ 6) ⊎ (new ≡ old) ⊎ ReportsDiffFailure request failure n old new
    → (n ≤ 1) ⊎ (n ≡ 6) ⊎ (new ≡ old) ⊎ ReportsRefusal request from to n old new
failure_quiet request from to failure n old new fails (inl six) = inr (inl six)
failure_quiet request from to failure n old new fails (inr (inl quiet)) = inr (inr (inl quiet))
failure_quiet request from to failure n old new fails (inr (inr document)) =
    inr (inr (inr (record { failure = failure; fails = fails; document = document })))

-- a text of a diff is written
pub page_reported : (request : DiffRequest) (diff : Diff) (text written : List ℕ) (n : ℕ) (old new : Option (List ℕ))
    → IsRendered request diff text → written ≡ text → (n ≡ 6) ⊎ Appends old new written
    → (n ≡ 5) ⊎ (n ≡ 6) ⊎ ReportsDiff request diff old new
page_reported request diff text written n old new is same (inl six) = inr (inl six)
page_reported request diff text written n old new is same (inr appended) =
    inr (inr (record { text = text; is_text = is; appended = subst (Appends old new) same appended }))

-- a status of a result is none of those of a refusal
pub result_or_refusal : {X : Type 0} (diff : Diff) (n : ℕ) → (n ≡ diff_status diff) ⊎ (n ≡ 5) ⊎ (n ≡ 6)
    → (n ≡ 3) ⊎ (n ≡ 4) → X
result_or_refusal diff n (inl same) (inl three) = absurd (omega (arith, low_status diff))
result_or_refusal diff n (inr (inl five)) (inl three) = absurd (omega arith)
result_or_refusal diff n (inr (inr six)) (inl three) = absurd (omega arith)
result_or_refusal diff n (inl same) (inr four) = absurd (omega (arith, low_status diff))
result_or_refusal diff n (inr (inl five)) (inr four) = absurd (omega arith)
result_or_refusal diff n (inr (inr six)) (inr four) = absurd (omega arith)
