-- Sessions: what a load leaves in them.
use Rattle.std.specs.Prelude.{◌≡◌, ◌⊎◌, ℕ, List, Result, Ok, Err, MatchResult}
use Rattle.rinqebo_session.specs.Loading.{IsLoadedFrom, IsFailureOf}
use Rattle.rinqebo_session.specs.Statuses.{failure_status}
use Rattle.rinqebo_session.specs.declared.failure.Failure.{Failure}
use Rattle.rinqebo_session.specs.declared.failure.Failure.TheVariants.{Memory}
use Rattle.rinqebo_session.specs.declared.loading.Loaded.{Loaded}
use Rattle.rinqebo_session.specs.declared.session.Session.{Session}
use Rattle.rinqebo_session.specs.declared.status.TheConstants.{DONE}

-- A session is that of a request: it has what the request is for, or why there is nothing.
abbrev pub IsSessionOf : List ℕ → Session → Type 0
IsSessionOf request session =
    MatchResult session.outcome (IsLoadedFrom request) (IsFailureOf request)

-- a session holds a failure, or a refusal of memory in its place
abbrev pub MayFailFor : Failure → Session → Type 0
MayFailFor failure session =
    (session.outcome ≡ Err failure) ⊎ (session.outcome ≡ Err Memory)

-- the number of the result of a load
abbrev pub outcome_status : Result Loaded Failure → ℕ
outcome_status (Ok loaded) = DONE
outcome_status (Err failure) = failure_status failure

-- how the load of a session went
abbrev pub session_status : Session → ℕ
session_status session = outcome_status session.outcome
