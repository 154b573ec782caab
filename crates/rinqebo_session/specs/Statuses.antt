-- The numbers of failures.
use Rattle.std.specs.Prelude.{ℕ, is_some, if◌then◌else◌}
use Rattle.nextest_sources.specs.Errors.{source_of}
use Rattle.rinqebo_forms.specs.declared.fault.RequestFault.{RequestFault}
use Rattle.rinqebo_forms.specs.declared.fault.RequestFault.TheVariants as requests
use Rattle.rinqebo_forms.specs.declared.machines.EngineFault.{EngineFault}
use Rattle.rinqebo_forms.specs.declared.machines.EngineFault.TheVariants as engines
use Rattle.rinqebo_session.specs.declared.failure.Failure.{Failure}
use Rattle.rinqebo_session.specs.declared.failure.Failure.TheVariants as failures
use Rattle.rinqebo_session.specs.declared.failure.OpenFailure.{OpenFailure}
use Rattle.rinqebo_session.specs.declared.failure.OpenFailure.TheVariants as opens
use Rattle.rinqebo_session.specs.declared.status.TheConstants.{REFUSED, NOT_TEXT, MEMORY, NOT_UNDERSTOOD, NO_ENGINES, NO_PROFILE, NOT_LOADED}

-- the number of a request that is not understood
abbrev pub request_status : RequestFault → ℕ
request_status requests.NotJson = NOT_UNDERSTOOD
request_status (requests.Expected wanted place) = NOT_UNDERSTOOD
request_status requests.Memory = MEMORY

-- the number of engines that are not there
abbrev pub engine_status : EngineFault → ℕ
engine_status (engines.Metadata fault) = NO_ENGINES
engine_status (engines.Platform triple fault) = NO_ENGINES
engine_status engines.Memory = MEMORY

-- the number of what a session lacks; a refusal of no file is a refusal of memory
abbrev pub failure_status : Failure → ℕ
failure_status failures.NotText = NOT_TEXT
failure_status (failures.Request fault) = request_status fault
failure_status (failures.Engines fault) = engine_status fault
failure_status (failures.Refused error) = if is_some (source_of error) then REFUSED else MEMORY
failure_status failures.Memory = MEMORY

-- the number of what a profile lacks
abbrev pub open_status : OpenFailure → ℕ
open_status opens.NotLoaded = NOT_LOADED
open_status opens.NotText = NOT_TEXT
open_status (opens.NotFound missing) = NO_PROFILE
open_status opens.Memory = MEMORY
