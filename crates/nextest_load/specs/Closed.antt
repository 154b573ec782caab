-- A configuration in which nothing undefined is named.
use Rattle.std.specs.Prelude.{◌≡◌, List, Bool, Option, Some, IsSome}
use Rattle.nextest_engines.specs.Engines.{Binary}
use Rattle.nextest_inheritance.specs.Names.{default_name}
use Rattle.nextest_inheritance.specs.Parents.{parents_in, HasOneChain}
use Rattle.nextest_rules.specs.Accepted.{IfWritten, IsAmong}
use Rattle.nextest_rules.specs.Rules.{Compiled, OverrideUse, ScriptRuleUse, at_name}
use Rattle.nextest_sources.specs.InputFaults.{Each}
use Rattle.nextest_tables.specs.FileTexts.{names_in, IsIn}
use Rattle.nextest_tables.specs.Written.{Name}
use Rattle.nextest_load.specs.Complete.{IsComplete}
use Rattle.nextest_load.specs.Config.{MergedProfile, ConfigModel, ScriptTables, config_parents}

-- a fact of each override of each profile of each source
abbrev pub EachOverride : {M K : Type 0} → (Compiled M K (OverrideUse M) → Type 0)
    → ConfigModel M K → Type 0
EachOverride P config = Each (λ l. Each (λ p. Each P p.1.overrides) l.profiles) config.layers

-- a fact of each script rule of each profile of each source
abbrev pub EachScriptRule : {M K : Type 0} → (Compiled M K ScriptRuleUse → Type 0)
    → ConfigModel M K → Type 0
EachScriptRule P config = Each (λ l. Each (λ p. Each P p.1.script_rules) l.profiles) config.layers

-- whether a filter matches a binary, or none where that depends on the test; the second filter is
-- the default one
abbrev pub BinaryMatch : Type 0 → Type 0
BinaryMatch M = M → Binary → M → Option Bool

-- a filter beside a list wrapper has a known value for each binary, whatever the default filter
-- means
abbrev pub AnswersBinaries : {M K : Type 0} → BinaryMatch M → Compiled M K ScriptRuleUse → Type 0
AnswersBinaries {M} matches rule = IsSome rule.writes.scripts.list_wrapper → IfWritten rule.filter
    (λ m. (binary : Binary) (default : M) → IsSome (matches m binary default))

-- The profile `default` is there, and it writes every field but the path of its report.
pub record HasDefaults (profiles : List (Name × MergedProfile)) : Type 0 where
  pub profile : MergedProfile
  pub there : at_name default_name profiles ≡ Some profile
  pub complete : IsComplete profile.fields

-- A configuration is closed: for the rules of every source, whether they match a test or not.
pub record IsClosed {M K : Type 0} (matches : BinaryMatch M) (config : ConfigModel M K)
    (scripts : ScriptTables) : Type 0 where
  -- each custom group that an override writes is a group of the configuration
  pub groups : EachOverride
      (λ r. IsAmong (names_in config.groups) r.writes.settings.test_group) config
  -- each setup script that a rule names is one of the configuration
  pub setup_scripts : EachScriptRule
      (λ r. Each (IsIn (names_in scripts.setup)) r.writes.scripts.setup) config
  -- each wrapper script that a rule names is one of the configuration
  pub list_wrappers : EachScriptRule
      (λ r. IfWritten r.writes.scripts.list_wrapper (IsIn (names_in scripts.wrapper))) config
  pub run_wrappers : EachScriptRule
      (λ r. IfWritten r.writes.scripts.run_wrapper (IsIn (names_in scripts.wrapper))) config
  -- each filter beside a list wrapper has a known value for each binary
  pub list_filters : EachScriptRule (AnswersBinaries matches) config
  -- each profile has one chain, of profiles
  pub chains : Each
      (HasOneChain (parents_in (config_parents config)) (names_in config.profiles))
      (names_in config.profiles)
  -- the profile `default` writes every field but the path of its report
  pub defaults : HasDefaults config.profiles
