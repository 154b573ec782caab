-- Why sources are refused: all that a refusal carries.
use Rattle.std.specs.Prelude.{ℕ, List, Bool, Option}
use Rattle.nextest_engines.specs.Engines.{RefusalText}
use Rattle.nextest_tree.specs.Schema.{Fault}
use Rattle.nextest_elements.specs.declared.experimental.ConfigExperimental.{ConfigExperimental}
use Rattle.nextest_inheritance.specs.Faults.{ParentFault}
use Rattle.nextest_scripts.specs.declared.script_type.ScriptType.{ScriptType}
use Rattle.nextest_scripts.specs.declared.script_type.ProfileScriptType.{ProfileScriptType}
use Rattle.nextest_elements.specs.Owner.{OwnerClass}
use Rattle.nextest_sources.specs.Sources.{Source, Outcome}

-- a set of names, as the test of being one of them
abbrev pub NameSet : Type 0
NameSet = List ℕ → Bool

-- where in a profile a fault of compilation is
pub data RuleSection : Type 0 where
  in_default_filter : RuleSection
  in_override : (index : ℕ) → RuleSection
  in_script_rule : (index : ℕ) → RuleSection

-- what compilation refuses
pub data CompileCause : Type 0 where
  -- a rule without host, target and filter; and whether it has a default filter
  no_constraint : (default_filter : Bool) → CompileCause
  -- an override with a filter and a default filter
  two_filters : CompileCause
  -- all that the engines refuse: each text's message, and its span, if the engine has one
  parse_refusals : (host target filter default_filter : Option RefusalText) → CompileCause

-- a fault of compilation: the profile, the section, and why
pub record CompileFault : Type 0 where
  pub profile : List ℕ
  pub section : RuleSection
  pub cause : CompileCause

-- a rule of a profile writes a group that is not known
pub record UnknownGroup : Type 0 where
  pub profile : List ℕ
  pub group : List ℕ

-- a rule of a profile names a script that is not known
pub record UnknownScript : Type 0 where
  pub profile : List ℕ
  pub script : List ℕ

-- a rule of a profile names a script for a use that its kind does not serve
pub record WrongScript : Type 0 where
  pub profile : List ℕ
  pub script : List ℕ
  pub attempted : ProfileScriptType
  pub actual : ScriptType

-- a rule of a profile with a list wrapper has a filter with parts that only a test can decide
pub record ListFilter : Type 0 where
  pub profile : List ℕ
  pub script : List ℕ
  pub filters : List (List ℕ)

-- all that is wrong with the scripts that rules name
pub record ScriptFaults : Type 0 where
  pub unknown_scripts : List UnknownScript
  pub wrong_scripts : List WrongScript
  pub list_filters : List ListFilter

-- why a source is refused
pub data LoadCause : Type 0 where
  -- a tool provides a second file: the tool, and the path of its first file
  duplicate_tool : (tool path : List ℕ) → LoadCause
  -- the file was not read
  no_text : Outcome → LoadCause
  -- its text is not a document
  no_document : LoadCause
  -- a value is not what may be there
  bad_element : Fault → LoadCause
  -- groups and scripts that the source may not define, and the class of its owner
  ill_named_groups : OwnerClass → NameSet → LoadCause
  ill_named_scripts : OwnerClass → NameSet → LoadCause
  -- scripts under `script` and under `scripts`
  both_script_keys : LoadCause
  -- features that it needs and that are not enabled
  missing_features : List ConfigExperimental → LoadCause
  -- scripts of both kinds
  both_script_kinds : NameSet → LoadCause
  -- parents that profiles may not have
  bad_parents : List ParentFault → LoadCause
  -- rules and default filters that do not compile
  compile_refusals : List CompileFault → LoadCause
  -- groups that are not known, and those that are
  unknown_groups : List UnknownGroup → (known : NameSet) → LoadCause
  -- what is wrong with the scripts that rules name, and the scripts that are known
  bad_scripts : ScriptFaults → (known : NameSet) → LoadCause

-- a source, and why it is refused
pub record LoadFault : Type 0 where
  pub source : Source
  pub cause : LoadCause

-- a cause at a source
abbrev pub at_source : Source → LoadCause → LoadFault
at_source source cause = record { source = source; cause = cause }
