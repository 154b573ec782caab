-- The filters and the platforms of a request.
use Rattle.std.specs.Prelude.{◌≡◌, ◌⊎◌, ℕ, List, Option, None, Some, option_map, string_bytes, Ok, Err}
use Rattle.nextest_engines.specs.declared.queries.BuildPlatforms.{BuildPlatforms}
use Rattle.filter_engine.specs.declared.engine.NextestFilters.{NextestFilters}
use Rattle.filter_engine.specs.declared.engine.Packages.{Packages}
use Rattle.filter_engine.specs.declared.engine.Packages.TheVariants as packages
use Rattle.filter_inputs.specs.Packages.Graph.{Graph}
use Rattle.filter_inputs.specs.Packages.GraphView.{graph_view}
use Rattle.filter_inputs.specs.Packages.Metadata.{graph_of_text}
use Rattle.platform_language.specs.Platforms.CfgList.{IsPlatformOf, IsRefusedFor}
use Rattle.platform_language.specs.Platforms.Platforms.{platform_view}
use Rattle.platform_language.specs.Platforms.Rows.{platform_of_row}
use Rattle.platform_language.specs.Platforms.Table.{targets}
use Rattle.platform_language.specs.Platforms.Targets.{row_of}
use Rattle.platform_language.specs.declared.platforms.Platform.{Platform}
use Rattle.platform_language.specs.declared.platforms.fault.PlatformFault.{PlatformFault}
use Rattle.platform_language.specs.declared.platforms.fault.PlatformFault.TheVariants as faults
use Rattle.rinqebo_forms.specs.Requests.{MachineText}
use Rattle.rinqebo_forms.specs.declared.machines.EngineFault.{EngineFault}
use Rattle.rinqebo_forms.specs.declared.machines.EngineFault.TheVariants as refused

-- what is known of packages is a graph
abbrev pub IsGraph : Graph → Packages → Type 0
IsGraph graph (packages.Known known) = graph_view known ≡ graph
IsGraph graph packages.Unknown = ⊥
IsGraph graph packages.Open = ⊥

-- Filters are those of metadata: with the graph in these, or with what is known without any.
abbrev pub AreFiltersOr : Packages → Option (List ℕ) → NextestFilters → Type 0
AreFiltersOr without None filters = filters.packages ≡ without
AreFiltersOr without (Some metadata) filters =
    (graph : Graph) × (graph_of_text metadata ≡ Ok graph) × IsGraph graph filters.packages

-- Filters are those of metadata: without any, `deps` and `rdeps` are refused.
abbrev pub AreFiltersFor : Option (List ℕ) → NextestFilters → Type 0
AreFiltersFor metadata filters = AreFiltersOr packages.Unknown metadata filters

-- Filters are those of metadata: without any, `deps` and `rdeps` are left open.
abbrev pub AreOpenFiltersFor : Option (List ℕ) → NextestFilters → Type 0
AreOpenFiltersFor metadata filters = AreFiltersOr packages.Open metadata filters

-- no graph can be read from metadata, for this fault, unless an allocation failed
abbrev pub IsMetadataFault : Option (List ℕ) → EngineFault → Type 0
IsMetadataFault None fault = ⊥
IsMetadataFault (Some metadata) (refused.Metadata fault) = graph_of_text metadata ≡ Err fault
IsMetadataFault (Some metadata) (refused.Platform triple fault) = ⊥
IsMetadataFault (Some metadata) refused.Memory = Unit {0}

-- a platform is that of a triple: the one that the compiler prints for it, if that is given, or
-- else the one in the table
abbrev pub IsPlatformBy : List ℕ → Option (List ℕ) → Platform → Type 0
IsPlatformBy triple (Some printed) platform = IsPlatformOf triple printed (platform_view platform)
IsPlatformBy triple None platform =
    option_map platform_of_row (row_of targets triple) ≡ Some (platform_view platform)

-- a platform is that of a machine
abbrev pub IsPlatformFor : MachineText → Platform → Type 0
IsPlatformFor machine platform = IsPlatformBy machine.triple machine.cfg platform

-- what the compiler prints is refused for this fault, or, if that isn't given, the table doesn't
-- have the triple, unless an allocation failed
abbrev pub IsFaultBy : List ℕ → Option (List ℕ) → PlatformFault → Type 0
IsFaultBy triple printed faults.Memory = Unit {0}
IsFaultBy triple (Some printed) fault = IsRefusedFor printed fault
IsFaultBy triple None fault = row_of targets triple ≡ None

-- a triple is refused: the fault has it, and the reason, unless an allocation failed
abbrev pub IsTripleRefused : List ℕ → Option (List ℕ) → EngineFault → Type 0
IsTripleRefused triple printed (refused.Metadata fault) = ⊥
IsTripleRefused triple printed (refused.Platform reported fault) =
    (string_bytes reported ≡ triple) × IsFaultBy triple printed fault
IsTripleRefused triple printed refused.Memory = Unit {0}

-- a machine is refused: its triple is
abbrev pub IsMachineRefused : MachineText → EngineFault → Type 0
IsMachineRefused machine fault = IsTripleRefused machine.triple machine.cfg fault

-- the target is refused, if there is one
abbrev pub IsTargetRefused : Option MachineText → EngineFault → Type 0
IsTargetRefused (Some machine) fault = IsMachineRefused machine fault
IsTargetRefused None fault = ⊥

-- a machine of a build is refused: the host, or the target
abbrev pub IsBuildRefused : MachineText → Option MachineText → EngineFault → Type 0
IsBuildRefused host target fault = IsMachineRefused host fault ⊎ IsTargetRefused target fault

-- the platform of the target is that of a machine, if a target is given; else there is none
abbrev pub IsTargetFor : Option MachineText → Option Platform → Type 0
IsTargetFor (Some machine) (Some platform) = IsPlatformFor machine platform
IsTargetFor (Some machine) None = ⊥
IsTargetFor None (Some platform) = ⊥
IsTargetFor None None = Unit {0}

-- The platforms of a build are those of the host and the target.
pub record ArePlatformsFor (host : MachineText) (target : Option MachineText)
    (platforms : BuildPlatforms Platform) : Type 0 where
  pub is_host : IsPlatformFor host platforms.host
  pub is_target : IsTargetFor target platforms.target
