-- Why a request has no session, which all commands begin with.
use Rattle.rinqebo_request.specs.declared.files.gathering.Gathered.{Gathered}
use Rattle.rinqebo_request.specs.declared.request.Request.{Request}
use Rattle.rinqebo_load.specs.InputFaults.{IsInputFault}
use Rattle.rinqebo_load.specs.declared.failure.Failure.{Failure}
use Rattle.rinqebo_load.specs.declared.failure.Failure.TheVariants as failures
use Rattle.rinqebo_load.specs.declared.fault.InputFault.{InputFault}
use Rattle.rinqebo_load.specs.declared.fault.InputFault.TheVariants as faults

-- A failure of what all commands begin with: the engines, or a refusal of memory.
abbrev pub IsBeginningFailure : Failure → Type 0
IsBeginningFailure (failures.Engines fault) = Unit {0}
IsBeginningFailure (failures.Refused report) = ⊥
IsBeginningFailure (failures.NoProfile report) = ⊥
IsBeginningFailure (failures.NoTest report) = ⊥
IsBeginningFailure (failures.SeveralTests report) = ⊥
IsBeginningFailure failures.Memory = Unit {0}

-- the failure of a fault: a refusal of memory is one of its own
abbrev pub failure_of : InputFault → Failure
failure_of faults.Memory = failures.Memory
failure_of fault = failures.Engines fault

-- A request has no session: a fault is that of the first of the things that it names which is not
-- understood, or memory ran out.
abbrev pub IsUnusable : Request → Gathered → Failure → Type 0
IsUnusable request gathered (failures.Engines fault) = IsInputFault request gathered fault
IsUnusable request gathered (failures.Refused report) = ⊥
IsUnusable request gathered (failures.NoProfile report) = ⊥
IsUnusable request gathered (failures.NoTest report) = ⊥
IsUnusable request gathered (failures.SeveralTests report) = ⊥
IsUnusable request gathered failures.Memory = Unit {0}
