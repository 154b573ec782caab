-- What is wrong with the list of tests, the metadata or the platforms that a request names.
use Rattle.std.specs.Prelude.{◌≡◌, ◌⊎◌, ℕ, List, Option, None, Some, IsTrue, MatchOption, Ok, String, is_some, option_map, string_bytes, unwrap_or, []}
use Rattle.std.specs.Char.{is_not_whitespace}
use Rattle.std.specs.Str.{NoCharPasses}
use Rattle.std.specs.declared.alloc.Global.{Global}
use Rattle.filter_inputs.specs.Packages.Graph.{Graph}
use Rattle.filter_inputs.specs.Packages.Metadata.{graph_of_text}
use Rattle.platform_language.specs.declared.platforms.Platform.{Platform}
use Rattle.platform_language.specs.declared.platforms.fault.PlatformFault.TheVariants as platforms
use Rattle.rinqebo_request.specs.declared.files.gathering.Gathered.{Gathered}
use Rattle.rinqebo_request.specs.declared.named.FileOption.{FileOption}
use Rattle.rinqebo_request.specs.declared.named.FileOption.TheVariants as options
use Rattle.rinqebo_request.specs.declared.named.NamedFile.{NamedFile}
use Rattle.rinqebo_request.specs.declared.request.Request.{Request}
use Rattle.rinqebo_forms.specs.Machines.{IsMachineRefused, IsMetadataFault, IsPlatformFor}
use Rattle.rinqebo_forms.specs.Requests.{MachineText}
use Rattle.rinqebo_forms.specs.declared.machines.EngineFault.{EngineFault}
use Rattle.rinqebo_forms.specs.declared.machines.EngineFault.TheVariants as refused
use Rattle.filter_inputs.specs.Lists.Demands.{not_json}
use Rattle.filter_inputs.specs.Lists.Faults.{fault_view}
use Rattle.filter_inputs.specs.Lists.ListView.{list_view}
use Rattle.filter_inputs.specs.Lists.Lists.{TestList}
use Rattle.filter_inputs.specs.Lists.Reading.{IsFaultIn}
use Rattle.filter_inputs.specs.declared.lists.list.ListedTests.{ListedTests}
use Rattle.rinqebo_load.specs.HostLines.{NamesHost, host_in, printed_host}
use Rattle.rinqebo_load.specs.ListPath.{list_path, path_of}
use Rattle.rinqebo_load.specs.Machines.{machine_of}
use Rattle.rinqebo_load.specs.Triples.{AreTriplesFor, IsListFor}
use Rattle.rinqebo_load.specs.declared.engines.MachineNames.{MachineNames}
use Rattle.rinqebo_load.specs.declared.fault.InputFault.{InputFault}
use Rattle.rinqebo_load.specs.declared.fault.InputFault.TheVariants as faults
use Rattle.rinqebo_load.specs.declared.fault.Subject.{Subject}
use Rattle.rinqebo_load.specs.declared.fault.Subject.TheVariants as subjects
use Rattle.rinqebo_load.specs.declared.fault.TripleSource.{TripleSource}
use Rattle.rinqebo_load.specs.declared.fault.TripleSource.TheVariants as sources
use Rattle.rinqebo_load.specs.declared.triples.Triples.{Triples}

-- something holds of a fault, unless the fault is a refusal of memory
abbrev pub OrMemory : (InputFault → Type 0) → InputFault → Type 0
OrMemory Holds faults.Memory = Unit {0}
OrMemory Holds fault = Holds fault

-- ---- what a fault is about

-- a file is the one at a path that an option names
abbrev pub IsFileAt : Option (List ℕ) → FileOption → NamedFile → Type 0
IsFileAt path option file =
    (option_map string_bytes file.path ≡ path) × (file.option ≡ option)

-- a fault is about the file at a path that an option names
abbrev pub IsAboutFile : Option (List ℕ) → FileOption → Subject → Type 0
IsAboutFile path option (subjects.File file) = IsFileAt path option file
IsAboutFile path option (subjects.Triple source) = ⊥

-- a fault is about a triple: about the list of tests where that gives the triple, and else about
-- what does
abbrev pub IsAboutTriple : TripleSource → Option (List ℕ) → Subject → Type 0
IsAboutTriple sources.List list subject = IsAboutFile list options.List subject
IsAboutTriple source list (subjects.File file) = ⊥
IsAboutTriple source list (subjects.Triple told) = told ≡ source

-- a fault is about a machine: about what the compiler prints for it, where a user names the path of
-- that, and else about its triple
abbrev pub IsAboutMachine : Option (List ℕ) → FileOption → TripleSource → Option (List ℕ)
    → Subject → Type 0
IsAboutMachine (Some path) option source list subject = IsAboutFile (Some path) option subject
IsAboutMachine None option source list subject = IsAboutTriple source list subject

-- the same, by the names of a machine
abbrev pub IsAboutNamed : MachineNames → Subject → Type 0
IsAboutNamed names subject =
    IsAboutMachine (path_of names.cfg) names.option names.source (path_of names.list) subject

-- a fault is about the host
abbrev pub IsAboutHost : Request → Triples → Subject → Type 0
IsAboutHost request triples subject =
    IsAboutMachine (path_of request.engines.host_cfg) options.HostCfg triples.host_source
    (list_path request.question) subject

-- a fault is about the target
abbrev pub IsAboutTarget : Request → Triples → Subject → Type 0
IsAboutTarget request triples subject =
    IsAboutMachine (path_of request.engines.target_cfg) options.TargetCfg triples.target_source
    (list_path request.question) subject

-- nothing is said of what a fault is about
abbrev pub IsAnySubject : Subject → Type 0
IsAnySubject subject = Unit {0}

-- ---- the fault of an engine

-- a fault of an engine is not a refusal of memory
abbrev pub IsNoWant : EngineFault → Type 0
IsNoWant (refused.Metadata fault) = Unit {0}
IsNoWant (refused.Platform triple platforms.Memory) = ⊥
IsNoWant (refused.Platform triple fault) = Unit {0}
IsNoWant refused.Memory = ⊥

-- the fault of an engine about a subject, which a refusal of memory has not
abbrev pub engine_fault : Subject → EngineFault → InputFault
engine_fault subject (refused.Metadata fault) = faults.Engine subject (refused.Metadata fault)
engine_fault subject (refused.Platform triple platforms.Memory) = faults.Memory
engine_fault subject (refused.Platform triple fault) =
    faults.Engine subject (refused.Platform triple fault)
engine_fault subject refused.Memory = faults.Memory

-- a fault is one of an engine, but not a refusal of memory: something holds of what it is about,
-- and of it
abbrev pub OfEngine : (Subject → Type 0) → (EngineFault → Type 0) → InputFault → Type 0
OfEngine IsAbout Holds (faults.Engine subject fault) =
    IsAbout subject × IsNoWant fault × Holds fault
OfEngine IsAbout Holds fault = ⊥

-- ---- the causes of faults, each without those of the others

-- a text is white space alone
abbrev pub IsBlank : List ℕ → Type 0
IsBlank text = NoCharPasses is_not_whitespace text

-- The text of a list that was read at a path is not a list of tests, for exactly this fault. A text
-- of white space alone is empty.
abbrev pub IsFaultOfList : Option (List ℕ) → List ℕ → InputFault → Type 0
IsFaultOfList path text (faults.EmptyList file) =
    IsFileAt path options.List file × IsBlank text × IsFaultIn text not_json
IsFaultOfList path text (faults.List told fault) =
    (string_bytes told ≡ unwrap_or path []) × MatchOption (fault_view fault) ⊥ (IsFaultIn text)
IsFaultOfList path text fault = ⊥

-- the same of the text of a list, if there is one
abbrev pub IsListFault : Option (List ℕ) → Option (String Global) → InputFault → Type 0
IsListFault path (Some text) fault = IsFaultOfList path (string_bytes text) fault
IsListFault path None fault = ⊥

-- the output of `rustc -vV` that was read at a path has no line with the host
abbrev pub LacksHost : Option (List ℕ) → Option (String Global) → InputFault → Type 0
LacksHost path (Some text) (faults.NoHost file) =
    IsFileAt path options.RustcVersion file × (host_in (string_bytes text) ≡ None)
LacksHost path printed fault = ⊥

-- metadata that were read at a path have no graph of packages, for exactly this fault
abbrev pub IsGraphFault : Option (List ℕ) → Option (String Global) → InputFault → Type 0
IsGraphFault path metadata fault =
    OfEngine (IsAboutFile path options.Metadata)
    (IsMetadataFault (option_map string_bytes metadata)) fault

-- metadata have a graph of packages, if there are any
abbrev pub HasGraph : Option (String Global) → Type 0
HasGraph (Some metadata) = (graph : Graph) × (graph_of_text (string_bytes metadata) ≡ Ok graph)
HasGraph None = Unit {0}

-- a machine has no platform, for exactly this fault: the compiler's output is refused, or, without
-- one, the triple is unknown
abbrev pub IsMachineFault : (Subject → Type 0) → MachineText → InputFault → Type 0
IsMachineFault IsAbout machine fault = OfEngine IsAbout (IsMachineRefused machine) fault

-- The machine that is built for has no platform, or there is no such machine, but what a compiler
-- prints for it.
abbrev pub IsTargetFault : (Subject → Type 0) → Option (String Global) → Option (List ℕ)
    → InputFault → Type 0
IsTargetFault IsAbout printed (Some triple) fault =
    IsMachineFault IsAbout (machine_of printed triple) fault
IsTargetFault IsAbout printed None faults.NoTarget = IsTrue (is_some printed)
IsTargetFault IsAbout printed None fault = ⊥

-- the machine that is built for has a platform, or there is none, and nothing that a compiler
-- prints for it
abbrev pub IsTargetKnown : Option (String Global) → Option (List ℕ) → Type 0
IsTargetKnown printed (Some triple) =
    (platform : Platform) × IsPlatformFor (machine_of printed triple) platform
IsTargetKnown printed None = printed ≡ None

-- ---- the first cause

-- a machine of a build has no platform: the target, or else the host
abbrev pub IsBuildFault : Request → Triples → Gathered → InputFault → Type 0
IsBuildFault request triples gathered fault =
    IsTargetFault (IsAboutTarget request triples) gathered.target_cfg
    (option_map string_bytes triples.target) fault
    ⊎ (IsTargetKnown gathered.target_cfg (option_map string_bytes triples.target)
    × IsMachineFault (IsAboutHost request triples)
    (machine_of gathered.host_cfg (string_bytes triples.host)) fault)

-- there are no engines for triples: the metadata have no graph, or else a machine has no platform
abbrev pub IsEngineFault : Request → Triples → Gathered → InputFault → Type 0
IsEngineFault request triples gathered fault =
    IsGraphFault (path_of request.engines.metadata) gathered.metadata fault
    ⊎ (HasGraph gathered.metadata × IsBuildFault request triples gathered fault)

-- A request has no engines, for this fault, beside a list of tests.
pub record LacksEngines (request : Request) (list : TestList) (gathered : Gathered)
    (fault : InputFault) : Type 0 where
  pub triples : Triples
  pub are_triples : AreTriplesFor request.engines (printed_host gathered.rustc_version) list triples
  pub cause : IsEngineFault request triples gathered fault

-- The list of tests is understood, or there is none, and something else that a request names is
-- not: the output of `rustc -vV`, or else its metadata or a machine.
pub record IsFaultBeside (request : Request) (gathered : Gathered) (fault : InputFault) : Type 0
  where
    pub tests : ListedTests
    pub are_tests : IsListFor gathered.list tests
    pub cause : LacksHost (path_of request.engines.rustc_version) gathered.rustc_version fault
        ⊎ (NamesHost gathered.rustc_version
        × LacksEngines request (list_view tests) gathered fault)

-- What a request names is not understood, and the fault is that of the first in this order: its
-- list of tests, the output of `rustc -vV`, its metadata, the target and the host. What is before
-- it is understood.
abbrev pub IsInputFault : Request → Gathered → InputFault → Type 0
IsInputFault request gathered fault =
    IsListFault (list_path request.question) gathered.list fault
    ⊎ IsFaultBeside request gathered fault
