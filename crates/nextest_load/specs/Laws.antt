-- Laws of loads: of their trees, and of what is accepted.
use Rattle.std.specs.Prelude.{◌≡◌, List, [], ◌∷◌, ◌++◌, Some, Ok, IsSome}
use Rattle.nextest_engines.specs.Engines.{Binary}
use Rattle.nextest_engines.specs.Readings.{Readings, Text}
use Rattle.nextest_engines.specs.declared.queries.FiltersetKind.TheVariants.{DefaultFilter}
use Rattle.nextest_inheritance.specs.Faults.{ParentFault, NameCycles, TellStranded, inheritance_faults}
use Rattle.nextest_inheritance.specs.Parents.{parents_in}
use Rattle.nextest_rules.specs.Definitions.{Features}
use Rattle.nextest_rules.specs.Steps.{written_parents}
use Rattle.nextest_sources.specs.Causes.{NameSet, bad_element}
use Rattle.nextest_sources.specs.Inputs.{LoadInputs, sources_in}
use Rattle.nextest_tables.specs.FileTexts.{FileText}
use Rattle.nextest_tables.specs.Tables.{a_file}
use Rattle.nextest_tree.specs.Node.{Node}
use Rattle.nextest_tree.specs.Place.{SitedCause, StandsBeforeAll, fault_at_place, sited_causes}
use Rattle.nextest_tree.specs.Schema.{Fault}
use Rattle.nextest_load.specs.Accepted.{IsAccepted}
use Rattle.nextest_load.specs.Closed.{IsClosed}
use Rattle.nextest_load.specs.Config.{ScriptTables, config_of}
use Rattle.nextest_load.specs.Scripts.{AreScriptsOf}
use Rattle.nextest_load.specs.Steps.{element_cause}

-- A fault is the least of a file's tree: it is one of its faults, and its place is before the
-- places of all others.
pub record IsLeastFault (n : Node) (fault : Fault) : Type 0 where
  pub before : List SitedCause
  pub least : SitedCause
  pub after : List SitedCause
  pub splits : sited_causes a_file n ≡ before ++ least ∷ after
  pub is : fault ≡ fault_at_place [] least
  pub first_of_before : StandsBeforeAll least.place before
  pub first_of_after : StandsBeforeAll least.place after

-- an element that a tree is refused for is its least fault
abbrev pub RefusesLeast : Node → Type 0
RefusesLeast n = (fault : Fault) → element_cause n ≡ Some (bad_element fault) → IsLeastFault n fault

-- Faults of parents name exactly the cycles of a file, and so decide which of its
-- profiles have no chain.
pub record TellCycles (file : FileText) (faults : List ParentFault) : Type 0 where
  pub cycles : NameCycles (parents_in (written_parents file.profiles)) faults
  pub stranded : TellStranded (parents_in (written_parents file.profiles)) faults

-- the refusal of the parents in a file names its cycles
abbrev pub RefusesCycles : (lower : NameSet) → FileText → Type 0
RefusesCycles lower file =
    TellCycles file (inheritance_faults lower (written_parents file.profiles))

-- engines decide default filters: one with no part that only a test can decide has a known value
-- for each binary, whatever the default filter means
abbrev pub AnswerDefaultFilters : {M K P : Type 0} → Readings M K P → Type 0
AnswerDefaultFilters {M} engines = (text : Text) (m : M)
    → engines.read_filter DefaultFilter text ≡ Ok m → engines.leaves m ≡ []
    → (binary : Binary) (default : M) → IsSome (engines.matches_binary m binary default)

-- accepted files are closed: the configuration that they mean, with their scripts, if the engines
-- decide default filters
abbrev pub AcceptedAreClosed : {M K P : Type 0} → Readings M K P → Type 0
AcceptedAreClosed engines = (features : Features) (files : LoadInputs) (scripts : ScriptTables)
    → AnswerDefaultFilters engines → IsAccepted engines features files
    → AreScriptsOf (sources_in files) scripts
    → IsClosed engines.matches_binary (config_of engines (sources_in files)) scripts
