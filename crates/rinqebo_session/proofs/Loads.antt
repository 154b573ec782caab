-- Why a request that is understood gives no configuration.
use Rattle.std.proofs.Common.{◌≡◌, ℕ, List, Some, Result, Ok, Err, IfErr}
use Rattle.rinqebo_forms.specs.Requests.{RequestText, request_of}
use Rattle.rinqebo_session.specs.Loading.{IsFailureBy, IsFailureOf}
use Rattle.rinqebo_session.specs.declared.failure.Failure.{Failure}
use Rattle.rinqebo_session.specs.declared.failure.Failure.TheVariants as failures

failure_of : (request : List ℕ) (asked : RequestText) → request_of request ≡ Some asked → (failure : Failure)
    → IsFailureBy asked failure → IsFailureOf request failure
failure_of request asked reads failures.NotText fails = absurd fails
failure_of request asked reads (failures.Request fault) fails = absurd fails
failure_of request asked reads (failures.Engines fault) fails = (asked, reads, fails)
failure_of request asked reads (failures.Refused error) fails = (asked, reads, fails)
failure_of request asked reads failures.Memory fails = tt

-- a result of what is understood
pub failures_of : {T : Type 0} (request : List ℕ) (asked : RequestText) → request_of request ≡ Some asked
    → (answer : Result T Failure) → IfErr answer (IsFailureBy asked) → IfErr answer (IsFailureOf request)
failures_of request asked reads (Ok loaded) fails = tt
failures_of request asked reads (Err failure) fails = failure_of request asked reads failure fails
