-- Causes of the faults of what a request names.
use Rattle.std.proofs.Common.{◌≡◌, ◌≢◌, ◌∙◌, ◌++◌, ℕ, inl, inr, List, [], Option, None, Some, IfSome, String, ap, drop, option_map, refl, string_bytes, subst, sym, take, unwrap_or}
use Rattle.std.specs.Char.{is_not_whitespace}
use Rattle.std.specs.Str.{NoCharPasses}
use Rattle.std.specs.declared.alloc.Global.{Global}
use Rattle.std.proofs.lemmas.List.{take-append-drop}
use Rattle.std.proofs.lemmas.Str.{NoCharPasses-append}
use Rattle.std.proofs.lemmas.Str.Pattern.{IsTrimResult}
use Rattle.filter_engine.specs.declared.engine.NextestFilters.{NextestFilters}
use Rattle.filter_inputs.specs.Lists.Faults.{fault_view}
use Rattle.filter_inputs.specs.Lists.Reading.{IsFaultIn}
use Rattle.filter_inputs.specs.declared.lists.fault.ListFault.{ListFault}
use Rattle.filter_inputs.specs.declared.lists.fault.ListFault.TheVariants as lists
use Rattle.rinqebo_request.specs.declared.files.gathering.Gathered.{Gathered}
use Rattle.platform_language.specs.declared.platforms.fault.PlatformFault.{PlatformFault}
use Rattle.platform_language.specs.declared.platforms.fault.PlatformFault.TheVariants as platforms
use Rattle.rinqebo_forms.specs.Machines.{AreOpenFiltersFor}
use Rattle.rinqebo_forms.specs.Requests.{MachineText}
use Rattle.rinqebo_forms.specs.declared.machines.EngineFault.{EngineFault}
use Rattle.rinqebo_forms.specs.declared.machines.EngineFault.TheVariants as refused
use Rattle.rinqebo_load.specs.Beginning.{failure_of}
use Rattle.rinqebo_load.specs.FindTests.{AreNoTargets, IsNotOfMetadata, test_fault}
use Rattle.rinqebo_load.specs.HostLines.{NamesHost, printed_host}
use Rattle.rinqebo_load.specs.InputFaults.{HasGraph, IsAboutHost, IsAboutMachine, IsAboutNamed, IsAboutTarget, IsAboutTriple, IsAnySubject, IsBlank, IsBuildFault, IsFaultOfList, IsMachineFault, IsTargetFault, IsTargetKnown, OfEngine, OrMemory, engine_fault}
use Rattle.rinqebo_load.specs.ListPath.{list_path, path_of}
use Rattle.rinqebo_load.specs.Machines.{machine_of}
use Rattle.rinqebo_load.specs.declared.engines.MachineNames.{MachineNames}
use Rattle.rinqebo_load.specs.declared.failure.Failure.TheVariants as failures
use Rattle.rinqebo_load.specs.declared.fault.InputFault.{InputFault}
use Rattle.rinqebo_load.specs.declared.fault.InputFault.TheVariants as faults
use Rattle.rinqebo_load.specs.declared.fault.Subject.{Subject}
use Rattle.rinqebo_load.specs.declared.fault.Subject.TheVariants as subjects
use Rattle.rinqebo_load.specs.declared.fault.TripleSource.{TripleSource}
use Rattle.rinqebo_load.specs.declared.fault.TripleSource.TheVariants as sources
use Rattle.rinqebo_load.specs.declared.missing.TestFault.TheVariants as tests
use Rattle.rinqebo_load.specs.declared.triples.Triples.{Triples}
use Rattle.rinqebo_request.specs.declared.named.FileOption.{FileOption}
use Rattle.rinqebo_request.specs.declared.named.FileOption.TheVariants as options
use Rattle.rinqebo_request.specs.declared.request.Request.{Request}

-- what follows from a cause follows beside a refusal of memory
pub or_more : (P Q : InputFault → Type 0) (fault : InputFault) → (P fault → Q fault) → OrMemory P fault
    → OrMemory Q fault
or_more P Q faults.Memory more holds = tt
or_more P Q fault more holds = more holds

-- the fault of an engine about a subject
pub of_engine : (IsAbout : Subject → Type 0) (Holds : EngineFault → Type 0) (subject : Subject) (fault : EngineFault)
    → IsAbout subject → Holds fault → OrMemory (OfEngine IsAbout Holds) (engine_fault subject fault)
of_engine IsAbout Holds subject (refused.Metadata fault) about holds = (about, tt, holds)
of_engine IsAbout Holds subject (refused.Platform triple platforms.Memory) about holds = tt
of_engine IsAbout Holds subject (refused.Platform triple fault) about holds = (about, tt, holds)
of_engine IsAbout Holds subject refused.Memory about holds = tt

-- the fault of a platform, other than a refusal of memory
pub of_platform : (subject : Subject) (triple : String Global) (fault : PlatformFault) → fault ≢ platforms.Memory
    → faults.Engine subject (refused.Platform triple fault) ≡ engine_fault subject (refused.Platform triple fault)
of_platform subject triple platforms.Memory other = absurd (other refl)
of_platform subject triple fault other = refl

-- a fault about a triple that no list gives
pub about_source : (source : TripleSource) (list : Option (List ℕ)) → source ≢ sources.List
    → IsAboutTriple source list (subjects.Triple source)
about_source sources.List list other = absurd (other refl)
about_source source list other = refl

-- what a fault of a machine is about, by names that are the same
pub same_about : (path other : Option (List ℕ)) (option named : FileOption) (source given : TripleSource)
    (list read : Option (List ℕ)) (subject : Subject) → path ≡ other → option ≡ named → source ≡ given → list ≡ read
    → IsAboutMachine path option source list subject → IsAboutMachine other named given read subject
same_about path other option named source given list read subject p o s l is = rw (p, o, s, l) at is

pub about_host : (names : MachineNames) (request : Request) (triples : Triples) (subject : Subject)
    → names.source ≡ triples.host_source → path_of names.list ≡ list_path request.question
    → names.cfg ≡ request.engines.host_cfg → names.option ≡ options.HostCfg → IsAboutNamed names subject
    → IsAboutHost request triples subject
about_host names request triples subject source list cfg option is =
    same_about _ _ _ _ _ _ _ _ subject (ap path_of cfg) option source list is

pub about_target : (names : MachineNames) (request : Request) (triples : Triples) (subject : Subject)
    → names.source ≡ triples.target_source → path_of names.list ≡ list_path request.question
    → names.cfg ≡ request.engines.target_cfg → names.option ≡ options.TargetCfg → IsAboutNamed names subject
    → IsAboutTarget request triples subject
about_target names request triples subject source list cfg option is =
    same_about _ _ _ _ _ _ _ _ subject (ap path_of cfg) option source list is

-- what a fault of a machine is about, seen in another way
pub about_more : (IsAbout IsOther : Subject → Type 0) (machine : MachineText) (fault : InputFault)
    → ((subject : Subject) → IsAbout subject → IsOther subject) → IsMachineFault IsAbout machine fault
    → IsMachineFault IsOther machine fault
about_more IsAbout IsOther machine (faults.Engine subject fault) more is = (more subject is.0, is.1, is.2)
about_more IsAbout IsOther machine fault more is = absurd is

-- the same of the target
pub target_more : (IsAbout IsOther : Subject → Type 0) (printed : Option (String Global)) (triple : Option (List ℕ))
    (fault : InputFault) → ((subject : Subject) → IsAbout subject → IsOther subject)
    → IsTargetFault IsAbout printed triple fault → IsTargetFault IsOther printed triple fault
target_more IsAbout IsOther printed (Some triple) fault more is =
    about_more IsAbout IsOther (machine_of printed triple) fault more is
target_more IsAbout IsOther printed None faults.NoTarget more is = is
target_more IsAbout IsOther printed None fault more is = absurd is

-- the target of a build has no platform
pub target_fault : (names : MachineNames) (request : Request) (triples : Triples) (gathered : Gathered)
    (fault : InputFault) → names.source ≡ triples.target_source → path_of names.list ≡ list_path request.question
    → names.cfg ≡ request.engines.target_cfg → names.option ≡ options.TargetCfg
    → OrMemory (IsTargetFault (IsAboutNamed names) gathered.target_cfg (option_map string_bytes triples.target)) fault
    → OrMemory (IsBuildFault request triples gathered) fault
target_fault names request triples gathered fault source list cfg option =
    or_more (IsTargetFault (IsAboutNamed names) gathered.target_cfg (option_map string_bytes triples.target))
    (IsBuildFault request triples gathered) fault (λ is. inl (target_more (IsAboutNamed names) (IsAboutTarget request triples) gathered.target_cfg
    (option_map string_bytes triples.target) fault
    (λ subject. about_target names request triples subject source list cfg option) is))

-- the host of a build whose target is known has none
pub host_fault : (names : MachineNames) (request : Request) (triples : Triples) (gathered : Gathered)
    (fault : InputFault) → names.source ≡ triples.host_source → path_of names.list ≡ list_path request.question
    → names.cfg ≡ request.engines.host_cfg → names.option ≡ options.HostCfg
    → IsTargetKnown gathered.target_cfg (option_map string_bytes triples.target)
    → OrMemory (IsMachineFault (IsAboutNamed names) (machine_of gathered.host_cfg (string_bytes triples.host))) fault
    → OrMemory (IsBuildFault request triples gathered) fault
host_fault names request triples gathered fault source list cfg option known =
    or_more (IsMachineFault (IsAboutNamed names) (machine_of gathered.host_cfg (string_bytes triples.host)))
    (IsBuildFault request triples gathered) fault (λ is. inr (
      known,
      about_more (IsAboutNamed names) (IsAboutHost request triples)
          (machine_of gathered.host_cfg (string_bytes triples.host)) fault
          (λ subject. about_host names request triples subject source list cfg option) is,
    ))

-- a text of which trimming leaves nothing
pub blank : (text trimmed : List ℕ) → IsTrimResult text trimmed → trimmed ≡ [] → IsBlank text
blank text trimmed (m, n, is, before, behind, first, last) none =
    let back : drop m text ≡ drop n (drop m text) =
    sym (take-append-drop n (drop m text)) ∙ ap (λ front. front ++ drop n (drop m text)) (sym is ∙ none) in
    let whole : take m text ++ drop n (drop m text) ≡ text =
    ap (λ xs. take m text ++ xs) (sym back) ∙ take-append-drop m text in
    subst (NoCharPasses is_not_whitespace) whole
    (NoCharPasses-append is_not_whitespace (take m text) (drop n (drop m text)) before behind)

-- why a text is not a list, other than because memory ran out
pub listed : (path : Option (List ℕ)) (text : List ℕ) (named : String Global) (fault : ListFault)
    → string_bytes named ≡ unwrap_or path []
    → fault ≢ lists.Memory → IfSome (fault_view fault) (IsFaultIn text) → IsFaultOfList path text (faults.List named fault)
listed path text named lists.Memory at other cause = absurd (other refl)
listed path text named fault at other cause = (at, cause)

-- filters have a graph
pub graph_of : (metadata : Option (String Global)) (filters : NextestFilters)
    → AreOpenFiltersFor (option_map string_bytes metadata) filters → HasGraph metadata
graph_of (Some metadata) filters are = (are.0, are.1)
graph_of None filters are = tt

-- a fault that is not a refusal of memory is its failure, and why a test is not found
pub engines_failure : (fault : InputFault) → fault ≢ faults.Memory → failures.Engines fault ≡ failure_of fault
engines_failure faults.Memory other = absurd (other refl)
engines_failure fault other = refl

pub input_fault : (fault : InputFault) → fault ≢ faults.Memory → tests.Input fault ≡ test_fault fault
input_fault faults.Memory other = absurd (other refl)
input_fault fault other = refl

-- metadata have no targets for which a binary is looked for
pub not_of_metadata : (metadata binary : List ℕ) (fault : InputFault)
    → OrMemory (OfEngine IsAnySubject (AreNoTargets metadata)) fault → IsNotOfMetadata metadata binary (test_fault fault)
not_of_metadata metadata binary faults.Memory why = tt
not_of_metadata metadata binary fault why = why

-- what the compiler prints of itself has the host that is read from it
pub named_host : (printed : Option (String Global)) (host : List ℕ) → Some host ≡ printed_host printed → NamesHost printed
named_host (Some text) host is = rw (sym is) refl
named_host None host is = tt
