-- Why a request has no session.
use Rattle.rinqebo_request.specs.declared.files.gathering.Gathered.{Gathered}
use Rattle.rinqebo_request.specs.declared.request.Request.{Request}
use Rattle.rinqebo_load.specs.Beginning.{IsBeginningFailure, IsUnusable, failure_of}
use Rattle.rinqebo_load.specs.InputFaults.{IsInputFault, OrMemory}
use Rattle.rinqebo_load.specs.declared.fault.InputFault.{InputFault}
use Rattle.rinqebo_load.specs.declared.fault.InputFault.TheVariants as faults

-- the failure of a fault of what a request names
pub unusable : (request : Request) (gathered : Gathered) (fault : InputFault)
    → OrMemory (IsInputFault request gathered) fault → IsUnusable request gathered (failure_of fault)
unusable request gathered faults.Memory why = tt
unusable request gathered fault why = why

-- it is a failure of what all commands begin with
pub begins : (fault : InputFault) → IsBeginningFailure (failure_of fault)
begins faults.Memory = tt
begins fault = tt
