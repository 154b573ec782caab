-- What is required of one source: of what it defines, and of its rules.
use Rattle.std.specs.Prelude.{◌≡◌, ◌⊎◌, ℕ, List, [], true, Option, None, Some, Result, Ok, IsSome, IsTrue}
use Rattle.nextest_tree.specs.Schema.{is_one_of}
use Rattle.nextest_elements.specs.TestGroup.{custom_group_text}
use Rattle.nextest_elements.specs.declared.experimental.ConfigExperimental.{ConfigExperimental}
use Rattle.nextest_elements.specs.declared.test_group.TestGroup.{TestGroup}
use Rattle.nextest_elements.specs.declared.test_group.TestGroup.TheVariants as groups
use Rattle.nextest_engines.specs.Engines.{RefusalText}
use Rattle.nextest_engines.specs.Readings.{Readings}
use Rattle.nextest_engines.specs.declared.queries.FiltersetKind.TheVariants.{OverrideFilter, DefaultFilter}
use Rattle.nextest_inheritance.specs.Faults.{is_known, AreSoundParents}
use Rattle.nextest_inheritance.specs.Parents.{parents_in}
use Rattle.nextest_sources.specs.Causes.{NameSet}
use Rattle.nextest_sources.specs.InputFaults.{Each}
use Rattle.nextest_sources.specs.Sources.{Source}
use Rattle.nextest_tables.specs.FileTexts.{PlatformText, OverrideText, ScriptUse, ScriptRuleText, ProfileText, FileText, names_in, IsIn, setup_ids_of, new_ids_of, script_ids_of}
use Rattle.nextest_tables.specs.Written.{Name}
use Rattle.nextest_rules.specs.Definitions.{MayDefine, Features, needs_feature}
use Rattle.nextest_rules.specs.Known.{KnownNames}
use Rattle.nextest_rules.specs.Steps.{written_parents}

-- a fact of a value, if there is one
abbrev pub IfWritten : {X : Type 0} → Option X → (X → Type 0) → Type 0
IfWritten None P = Unit {0}
IfWritten (Some x) P = P x

-- the engine reads a text
abbrev pub IsRead : {M : Type 0} → (List ℕ → Result M RefusalText) → List ℕ → Type 0
IsRead {M} read t = (m : M) × (read t ≡ Ok m)

-- a text is read, if there is one
abbrev pub IsReadIfWritten : {M : Type 0} → (List ℕ → Result M RefusalText) → Option (List ℕ)
    → Type 0
IsReadIfWritten read t = IfWritten t (IsRead read)

-- a rule has a constraint: a host, a target or a filter
abbrev pub HasConstraint : PlatformText → Option (List ℕ) → Type 0
HasConstraint platform filter = IsSome platform.host ⊎ IsSome platform.target ⊎ IsSome filter

-- An override compiles: it has a constraint, its texts are read, and it has not both filters.
pub record OverrideCompiles {M K P : Type 0} (engines : Readings M K P) (o : OverrideText)
    : Type 0 where
  pub constraint : HasConstraint o.platform o.filter
  pub host : IsReadIfWritten engines.read_spec o.platform.host
  pub target : IsReadIfWritten engines.read_spec o.platform.target
  pub filter : IsReadIfWritten (engines.read_filter OverrideFilter) o.filter
  pub default_filter : IsReadIfWritten (engines.read_filter DefaultFilter) o.default_filter
  pub one_filter : ¬ (IsSome o.filter × IsSome o.default_filter)

-- A script rule compiles: it has a constraint, and its texts are read.
pub record ScriptRuleCompiles {M K P : Type 0} (engines : Readings M K P) (r : ScriptRuleText)
    : Type 0 where
  pub constraint : HasConstraint r.platform r.filter
  pub host : IsReadIfWritten engines.read_spec r.platform.host
  pub target : IsReadIfWritten engines.read_spec r.platform.target
  pub filter : IsReadIfWritten (engines.read_filter DefaultFilter) r.filter

-- the group that a rule writes, if it is a custom one, is among these
abbrev pub IsAmong : List Name → Option TestGroup → Type 0
IsAmong names (Some (groups.Custom group)) = is_one_of names (custom_group_text group) ≡ true
IsAmong names (Some groups.Global) = Unit {0}
IsAmong names None = Unit {0}

-- the scripts that a rule names are known, each of the kind that its use requires
pub record AreKnownScripts (known : KnownNames) (scripts : ScriptUse) : Type 0 where
  pub setup : Each (IsIn known.setup_scripts) scripts.setup
  pub list_wrapper : IfWritten scripts.list_wrapper (IsIn known.wrapper_scripts)
  pub run_wrapper : IfWritten scripts.run_wrapper (IsIn known.wrapper_scripts)

-- a rule with a list wrapper has a filter without parts that only a test can decide
abbrev pub ListsWithoutTests : {M K P : Type 0} → Readings M K P → ScriptRuleText → Type 0
ListsWithoutTests {M} engines r = IsSome r.scripts.list_wrapper → (t : List ℕ) (m : M)
    → r.filter ≡ Some t → engines.read_filter DefaultFilter t ≡ Ok m → engines.leaves m ≡ []

-- All that is required of a profile of a source.
pub record IsAcceptedProfile {M K P : Type 0} (engines : Readings M K P) (known : KnownNames)
    (p : ProfileText) : Type 0 where
  -- its default filter is read
  pub default_filter : IsReadIfWritten (engines.read_filter DefaultFilter) p.default_filter
  -- each rule compiles
  pub overrides : Each (OverrideCompiles engines) p.overrides
  pub script_rules : Each (ScriptRuleCompiles engines) p.script_rules
  -- each custom group that an override writes is known
  pub groups : Each (λ o. IsAmong known.groups o.settings.test_group) p.overrides
  -- each script that a rule names is known and of the right kind
  pub scripts : Each (λ r. AreKnownScripts known r.scripts) p.script_rules
  -- each rule with a list wrapper can be decided without a test
  pub lists : Each (ListsWithoutTests engines) p.script_rules

-- All that is required of what a source defines.
pub record AreAcceptedDefinitions (features : Features) (source : Source) (file : FileText)
    : Type 0 where
  -- it may define the groups and the scripts that it defines
  pub group_names : Each (MayDefine source.kind) (names_in file.groups)
  pub script_names : Each (MayDefine source.kind) (script_ids_of file)
  -- it has scripts under `script` or under `scripts`, and not under both
  pub one_key : (file.old_setup_scripts ≡ []) ⊎ (new_ids_of file ≡ [])
  -- the features that it needs are switched on
  pub features_on : (feature : ConfigExperimental) → IsTrue (needs_feature file feature)
      → IsTrue (features feature)
  -- no script is both a setup script and a wrapper script
  pub one_kind : Each (λ id. ¬ IsIn file.wrapper_scripts id) (setup_ids_of file)

-- All that is required of the rules of a source over lower files.
pub record AreAcceptedRules {M K P : Type 0} (engines : Readings M K P) (lower : NameSet)
    (known : KnownNames) (file : FileText) : Type 0 where
  -- its parents are sound beside the profiles of lower files
  pub parents : let written = written_parents file.profiles in
      AreSoundParents (parents_in written) (is_known lower written)
  -- its profiles are accepted beside the names that are known to it
  pub profiles : Each (λ p. IsAcceptedProfile engines known p.1) file.profiles
