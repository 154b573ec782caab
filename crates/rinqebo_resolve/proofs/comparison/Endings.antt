-- How comparisons end.
use Rattle.std.proofs.Common.{◌≡◌, ℕ, Bool, List, Option, None, Some, Result, Ok, Err, IfOk, inl, inr, refl, subst}
use Rattle.std.specs.Str.{IsUtf8}
use Rattle.rinqebo_resolve.specs.Comparison.Comparisons.{EndsBetween, EndsFor, EndsIn, EndsOf, EndsUnderstood, FailsOn, HoldsOn, IsCauseOn}
use Rattle.rinqebo_resolve.specs.Comparison.Readings.{IsNoRequest}
use Rattle.rinqebo_resolve.specs.Comparison.Requests.{IsRequestBetween}
use Rattle.rinqebo_resolve.specs.declared.comparison.comparing.Compared.{Compared}
use Rattle.rinqebo_diff.specs.Failing.{DiffFails, SideFails}
use Rattle.rinqebo_diff.specs.declared.loaded.DiffFailure.TheVariants as wants
use Rattle.rinqebo_diff.specs.declared.loaded.SideName.{SideName}
use Rattle.rinqebo_diff.specs.declared.loaded.SideName.TheVariants as names
use Rattle.rinqebo_diff.specs.declared.request.DiffRequest.{DiffRequest}
use Rattle.rinqebo_diff.specs.declared.request.DiffSide.{DiffSide}
use Rattle.rinqebo_request.specs.declared.files.gathering.Gathered.{Gathered}
use Rattle.rinqebo_forms.specs.Runs.{RunText, run_of}
use Rattle.rinqebo_load.specs.declared.failure.Failure.{Failure}
use Rattle.rinqebo_load.specs.declared.failure.Failure.TheVariants as failures
use Rattle.rinqebo_resolve.specs.Asking.{RequestedText, AreFilesOf, requested_of}
use Rattle.rinqebo_resolve.specs.Endings.{ReportsFailure}
use Rattle.rinqebo_resolve.specs.declared.ending.Ending.{Ending}
use Rattle.rinqebo_resolve.specs.declared.ending.Ending.TheVariants as ends

-- what an ending says of a side whose failure it reports
cause_of : (side : DiffSide) (gathered : Gathered) (failure : Failure) (ending : Ending)
    → SideFails side gathered failure → ReportsFailure failure ending → IsCauseOn side gathered ending
cause_of side gathered (failures.Engines fault) (ends.NoEngines reason) fails reports = tt
cause_of side gathered (failures.Refused report) (ends.Refused text) (inl begins) reports = absurd begins
cause_of side gathered (failures.Refused report) (ends.Refused text) (inr fails) reports = record {
  session = fails.session;
  begun = fails.begun;
  broken = fails.cause.0;
}
cause_of side gathered (failures.NoProfile report) (ends.NoProfile text) (inl begins) reports = absurd begins
cause_of side gathered (failures.NoProfile report) (ends.NoProfile text) (inr fails) reports = record {
  session = fails.session;
  begun = fails.begun;
  lacks = fails.cause.0;
}
cause_of side gathered (failures.NoTest report) (ends.NoEngines reason) fails reports = tt
cause_of side gathered (failures.SeveralTests report) (ends.NoEngines reason) fails reports = tt
cause_of side gathered failure ending fails reports = absurd reports

fails_on : (side : DiffSide) (gathered : Gathered) (failure : Failure) (ending : Ending)
    → SideFails side gathered failure → ReportsFailure failure ending → FailsOn side gathered ending
fails_on side gathered failure ending fails reports = record {
  failure = failure;
  fails = fails;
  reports = reports;
  cause = cause_of side gathered failure ending fails reports;
}

-- a side has no result
pub side_fails : (request : DiffRequest) (from to : Gathered) (name : SideName) (failure : Failure) (ending : Ending)
    → DiffFails request from to (wants.Side name failure) → ReportsFailure failure ending
    → EndsBetween request from to (Some name) ending
side_fails request from to names.From failure ending fails reports =
    fails_on request.from from failure ending fails reports
side_fails request from to names.To failure ending fails reports =
    (fails.0, fails_on request.to to failure ending fails.1 reports)

-- what two runs request of files ends as their request does
pub ends_in : {E : Type 0} (from to : RequestedText) (with_origins : Bool) (left right : Gathered)
    (request : DiffRequest) (told : Result Compared E) → IsRequestBetween from to with_origins request
    → IfOk told (λ end. EndsBetween request left right end.side end.ending)
    → IfOk told (λ end. EndsIn from to with_origins left right end.side end.ending)
ends_in from to with_origins left right request (Ok end) is so =
    record { request = request; is_request = is; ends_so = so }
ends_in from to with_origins left right request (Err want) is so = tt

-- a comparison of two runs ends as what they request of their files does
pub ends_of : {E : Type 0} (one two : RunText) (from to : RequestedText) (with_origins : Bool) (left right : Gathered)
    (told : Result Compared E) → from ≡ requested_of one → to ≡ requested_of two → AreFilesOf one left
    → AreFilesOf two right → IfOk told (λ end. EndsIn from to with_origins left right end.side end.ending)
    → IfOk told (λ end. EndsOf one two with_origins end.side end.ending)
ends_of one two from to with_origins left right (Ok end) same other are_left are_right so = record {
  left = left;
  right = right;
  are_left = are_left;
  are_right = are_right;
  ends_so = subst (λ what. EndsIn what (requested_of two) with_origins left right end.side end.ending) same
      (subst (λ what. EndsIn from what with_origins left right end.side end.ending) other so);
}
ends_of one two from to with_origins left right (Err want) same other are_left are_right so = tt

-- the end of a comparison of requests that are understood
ends_for : (from to : List ℕ) (with_origins : Bool) (side : Option SideName) (ending : Ending)
    → EndsUnderstood from to with_origins side ending → EndsFor from to with_origins side ending
ends_for from to with_origins side (ends.Answered text) is = is
ends_for from to with_origins side (ends.Refused text) is = is
ends_for from to with_origins side (ends.NoProfile text) is = is
ends_for from to with_origins side (ends.NoEngines reason) is = is
ends_for from to with_origins None (ends.NotUnderstood reason) is = absurd is.ends_so.ends_so.ends_so
ends_for from to with_origins (Some names.From) (ends.NotUnderstood reason) is = absurd is.ends_so.ends_so.ends_so.cause
ends_for from to with_origins (Some names.To) (ends.NotUnderstood reason) is = absurd is.ends_so.ends_so.ends_so.1.cause
ends_for from to with_origins None ends.NotText is = absurd is.ends_so.ends_so.ends_so
ends_for from to with_origins (Some names.From) ends.NotText is = absurd is.ends_so.ends_so.ends_so.cause
ends_for from to with_origins (Some names.To) ends.NotText is = absurd is.ends_so.ends_so.ends_so.1.cause
ends_for from to with_origins None ends.Memory is = refl
ends_for from to with_origins (Some names.From) ends.Memory is = absurd is.ends_so.ends_so.ends_so.cause
ends_for from to with_origins (Some names.To) ends.Memory is = absurd is.ends_so.ends_so.ends_so.1.cause

-- requests that are understood end as the comparison of their runs does
pub understood : {E : Type 0} (from to : List ℕ) (with_origins : Bool) (left right : RunText)
    (told : Result Compared E) → run_of from ≡ Some left → run_of to ≡ Some right
    → IfOk told (λ end. EndsOf left right with_origins end.side end.ending)
    → IfOk told (λ end. EndsFor from to with_origins end.side end.ending)
understood from to with_origins left right (Ok end) reads_left reads_right so =
    ends_for from to with_origins end.side end.ending (record {
      left = left;
      right = right;
      reads_left = reads_left;
      reads_right = reads_right;
      ends_so = so;
    })
understood from to with_origins left right (Err want) reads_left reads_right so = tt

-- the bytes of a side are not a request
pub unread : (from to : List ℕ) (with_origins : Bool) (name : SideName) (bytes : List ℕ) (ending : Ending)
    → IsNoRequest bytes ending → ((Holds : List ℕ → Type 0) → Holds bytes → HoldsOn Holds from to (Some name))
    → EndsFor from to with_origins (Some name) ending
unread from to with_origins name bytes (ends.Answered text) is holds = absurd is
unread from to with_origins name bytes (ends.Refused text) is holds = absurd is
unread from to with_origins name bytes (ends.NoProfile text) is holds = absurd is
unread from to with_origins name bytes (ends.NoEngines reason) is holds = absurd is
unread from to with_origins name bytes (ends.NotUnderstood reason) is holds =
    holds (λ request. run_of request ≡ None) is
unread from to with_origins name bytes ends.NotText is holds = holds (λ request. ¬ IsUtf8 request) is
unread from to with_origins name bytes ends.Memory is holds = absurd is
