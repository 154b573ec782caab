-- Why a diff has no result.
use Rattle.std.specs.Prelude.{◌≡◌, ◌⊎◌, ℕ}
use Rattle.rinqebo_request.specs.declared.files.gathering.Gathered.{Gathered}
use Rattle.rinqebo_checks.specs.Failures.{LacksProfile}
use Rattle.rinqebo_load.specs.Accepted.{AreAccepted}
use Rattle.rinqebo_load.specs.Beginning.{IsUnusable}
use Rattle.rinqebo_load.specs.SessionOf.{IsSessionOf}
use Rattle.rinqebo_load.specs.declared.failure.Failure.{Failure}
use Rattle.rinqebo_load.specs.declared.session.Session.{Session}
use Rattle.rinqebo_results.specs.LookedUp.{IsFailureOn}
use Rattle.rinqebo_results.specs.Statuses.{failure_status}
use Rattle.rinqebo_diff.specs.Loaded.{IsLoadedSide}
use Rattle.rinqebo_diff.specs.declared.loaded.DiffFailure.{DiffFailure}
use Rattle.rinqebo_diff.specs.declared.loaded.DiffFailure.TheVariants as failures
use Rattle.rinqebo_diff.specs.declared.loaded.Loaded.{Loaded}
use Rattle.rinqebo_diff.specs.declared.loaded.SideName.{SideName}
use Rattle.rinqebo_diff.specs.declared.loaded.SideName.TheVariants as names
use Rattle.rinqebo_diff.specs.declared.request.DiffRequest.{DiffRequest}
use Rattle.rinqebo_diff.specs.declared.request.DiffSide.{DiffSide}

-- A session of a side has no result about its profile.
pub record FailsInSession (side : DiffSide) (gathered : Gathered) (failure : Failure) : Type 0 where
  pub session : Session
  pub begun : IsSessionOf side.request gathered session
  pub cause : IsFailureOn session side.profile.now failure

-- A side has no result: its list of tests, its metadata or a machine is not understood, or its
-- session has none.
abbrev pub SideFails : DiffSide → Gathered → Failure → Type 0
SideFails side gathered failure =
    IsUnusable side.request gathered failure ⊎ FailsInSession side gathered failure

-- a side of a name has no result, or memory ran out
abbrev pub FailsAt : SideName → DiffSide → Gathered → DiffFailure → Type 0
FailsAt name side gathered (failures.Side other failure) =
    (other ≡ name) × SideFails side gathered failure
FailsAt name side gathered failures.Memory = Unit {0}

-- a side loads: it has a result
abbrev pub Loads : DiffSide → Gathered → Type 0
Loads side gathered = (loaded : Loaded) × IsLoadedSide side gathered loaded

-- A diff has no result: its left side has none, or its right side has none and the left one loads,
-- or memory ran out.
abbrev pub DiffFails : DiffRequest → Gathered → Gathered → DiffFailure → Type 0
DiffFails request from to (failures.Side names.From failure) = SideFails request.from from failure
DiffFails request from to (failures.Side names.To failure) =
    Loads request.from from × SideFails request.to to failure
DiffFails request from to failures.Memory = Unit {0}

-- The program cannot use what a side names: it has no result, for a failure with exit status 2.
pub record HasUsageFailure (side : DiffSide) (gathered : Gathered) : Type 0 where
  pub failure : Failure
  pub is_status : failure_status failure ≡ 2
  pub fails : SideFails side gathered failure

-- The files of a side are refused: some written rule does not hold of them.
pub record IsRefusedSide (side : DiffSide) (gathered : Gathered) : Type 0 where
  pub session : Session
  pub begun : IsSessionOf side.request gathered session
  pub broken : ¬ AreAccepted session

-- The files of a side lack its profile.
pub record LacksItsProfile (side : DiffSide) (gathered : Gathered) : Type 0 where
  pub session : Session
  pub begun : IsSessionOf side.request gathered session
  pub lacks : LacksProfile session side.profile.now

-- An exit status says something of the sides: it is 2 only where the list of tests, the metadata or
-- a machine of a side is not understood, or a filter that it evaluates needs metadata; 3 only where
-- the files of a side are refused; and 4 only where those of a side lack its profile.
pub record HasCause (request : DiffRequest) (from to : Gathered) (status : ℕ) : Type 0 where
  pub unusable : status ≡ 2 → HasUsageFailure request.from from ⊎ HasUsageFailure request.to to
  pub refused : status ≡ 3 → IsRefusedSide request.from from ⊎ IsRefusedSide request.to to
  pub lacking : status ≡ 4 → LacksItsProfile request.from from ⊎ LacksItsProfile request.to to
