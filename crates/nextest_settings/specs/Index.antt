-- Index lists: which rules are in the list of a setting or a wrapper, and the tables of all
-- lists.
use Rattle.std.specs.Prelude.{◌≡◌, ◌&&◌, ℕ, List, [], ◌∷◌, Bool, is_some, length, map}
use Rattle.nextest_elements.specs.declared.run_mode.NextestRunMode.{NextestRunMode}
use Rattle.nextest_elements.specs.declared.run_mode.NextestRunMode.TheVariants.{Test, Benchmark}
use Rattle.nextest_engines.specs.declared.queries.BuildPlatform.{BuildPlatform}
use Rattle.nextest_engines.specs.declared.queries.BuildPlatform.TheVariants.{Host, Target}
use Rattle.nextest_rules.specs.declared.overrides.CompiledOverride.{CompiledOverride}
use Rattle.nextest_rules.specs.declared.overrides.CompiledProfileScripts.{CompiledProfileScripts}
use Rattle.rule_lists.specs.Rows.{list_at, rows_of}
use Rattle.rule_lists.specs.declared.rows.Row.{Row}
use Rattle.nextest_rules.specs.Rules.{ScriptRuleUse}
use Rattle.nextest_settings.specs.Platforms.{EvaluatedRule, is_on}
use Rattle.nextest_elements.specs.Settings.{index_of, settings}
use Rattle.nextest_settings.specs.Settings.{is_set}
use Rattle.nextest_settings.specs.View.{evaluated_override_view, evaluated_script_rule_view}
use Rattle.nextest_settings.specs.declared.index.PlatformIndex.{PlatformIndex}
use Rattle.nextest_settings.specs.declared.index.RuleIndex.{RuleIndex}
use Rattle.nextest_settings.specs.declared.index.Wrapper.{Wrapper}
use Rattle.nextest_settings.specs.declared.index.Wrapper.TheVariants as wrappers
use Rattle.nextest_settings.specs.declared.platforms.EvaluatedRule.{EvaluatedRule as EvaluatedRule'}
use Rattle.nextest_elements.specs.declared.setting.Setting.{Setting}

-- a rule is in the list of a thing for binaries of a platform: its platforms hold for them, and
-- it writes the thing
abbrev pub is_listed : {M W : Type 0} → BuildPlatform → (W → Bool) → EvaluatedRule M W → Bool
is_listed platform wants rule = is_on rule platform && wants rule.writes

-- a script rule names a wrapper
abbrev pub names_wrapper : Wrapper → ScriptRuleUse → Bool
names_wrapper wrappers.Run uses = is_some uses.scripts.run_wrapper
names_wrapper wrappers.List uses = is_some uses.scripts.list_wrapper

-- of each setting, which overrides are in its list
abbrev pub override_tests : {F S E T N P : Type 0} → BuildPlatform → NextestRunMode
    → List (EvaluatedRule' (CompiledOverride F S E T N P) → Bool)
override_tests platform mode = map
    (λ s rule. is_listed platform (λ w. is_set w.settings mode s) (evaluated_override_view rule))
    settings

-- which script rules are in the one list of a wrapper
abbrev pub script_tests : {F S E T N P : Type 0} → BuildPlatform → Wrapper
    → List (EvaluatedRule' (CompiledProfileScripts F S E T N P) → Bool)
script_tests platform wrapper = map
    (λ named rule. is_listed platform (names_wrapper named) (evaluated_script_rule_view rule))
    (wrapper ∷ [])

-- the overrides of an index in a mode
abbrev pub rows_in : PlatformIndex → NextestRunMode → List Row
rows_in index Test = index.in_test.items
rows_in index Benchmark = index.in_benchmark.items

-- the script rules of an index that name a wrapper
abbrev pub wrapper_rows_in : PlatformIndex → Wrapper → List Row
wrapper_rows_in index wrappers.Run = index.run_wrappers.items
wrapper_rows_in index wrappers.List = index.list_wrappers.items

-- the index for binaries of a platform
abbrev pub platform_rows : RuleIndex → BuildPlatform → PlatformIndex
platform_rows index Host = index.host
platform_rows index Target = index.target

-- An index for binaries of a platform: the overrides that write a setting in each mode, and the
-- script rules that name each wrapper, numbered on from the overrides.
pub record IsPlatformIndex {F S E T N P : Type 0} (platform : BuildPlatform)
    (overrides : List (EvaluatedRule' (CompiledOverride F S E T N P)))
    (script_rules : List (EvaluatedRule' (CompiledProfileScripts F S E T N P)))
    (index : PlatformIndex) : Type 0 where
  pub in_test : index.in_test.items ≡ rows_of (override_tests platform Test) 0 overrides
  pub in_benchmark : index.in_benchmark.items
      ≡ rows_of (override_tests platform Benchmark) 0 overrides
  pub run_wrappers : index.run_wrappers.items
      ≡ rows_of (script_tests platform wrappers.Run) (length overrides) script_rules
  pub list_wrappers : index.list_wrappers.items
      ≡ rows_of (script_tests platform wrappers.List) (length overrides) script_rules

-- an index of rules, for binaries of each platform
pub record IsIndex {F S E T N P : Type 0}
    (overrides : List (EvaluatedRule' (CompiledOverride F S E T N P)))
    (script_rules : List (EvaluatedRule' (CompiledProfileScripts F S E T N P)))
    (index : RuleIndex) : Type 0 where
  pub host : IsPlatformIndex Host overrides script_rules index.host
  pub target : IsPlatformIndex Target overrides script_rules index.target

-- the list of a setting for binaries of a platform, in a mode: numbers of overrides
abbrev pub setting_list : RuleIndex → BuildPlatform → NextestRunMode → Setting → List ℕ
setting_list index platform mode s =
    list_at (index_of s) (rows_in (platform_rows index platform) mode)

-- the list of a wrapper for binaries of a platform: numbers of script rules
abbrev pub wrapper_list : RuleIndex → BuildPlatform → Wrapper → List ℕ
wrapper_list index platform wrapper =
    list_at 0 (wrapper_rows_in (platform_rows index platform) wrapper)
