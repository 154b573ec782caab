-- The machines of a request: their triples, and what the compiler prints for them.
use Rattle.std.specs.Prelude.{ℕ, List, Option, String, option_map, string_bytes}
use Rattle.std.specs.declared.alloc.Global.{Global}
use Rattle.nextest_engines.specs.declared.queries.BuildPlatforms.{BuildPlatforms}
use Rattle.platform_language.specs.declared.platforms.Platform.{Platform}
use Rattle.rinqebo_request.specs.declared.files.gathering.Gathered.{Gathered}
use Rattle.rinqebo_request.specs.declared.request.EngineOptions.{EngineOptions}
use Rattle.rinqebo_forms.specs.Machines.{ArePlatformsFor as AreOfMachines}
use Rattle.rinqebo_forms.specs.Requests.{MachineText}
use Rattle.filter_inputs.specs.Lists.Lists.{TestList}
use Rattle.rinqebo_load.specs.HostLines.{printed_host}
use Rattle.rinqebo_load.specs.Triples.{host_for, target_for}

-- the machine of a triple, with what the compiler prints for it, if a user names that
abbrev pub machine_of : Option (String Global) → List ℕ → MachineText
machine_of printed triple = record { triple = triple; cfg = option_map string_bytes printed }

-- the platforms of a build are those that a user requests, beside a list of tests
abbrev pub ArePlatformsFor : EngineOptions → TestList → Gathered → BuildPlatforms Platform → Type 0
ArePlatformsFor options list gathered =
    AreOfMachines
    (machine_of gathered.host_cfg (host_for options (printed_host gathered.rustc_version) list))
    (option_map (machine_of gathered.target_cfg) (target_for options list))
