-- The rows of an index are those of its rules, and so is each list.
use Rattle.std.proofs.Common.{◌≡◌, ◌∷◌, [], List, length, map, refl, sym, subst}
use Rattle.nextest_elements.specs.declared.run_mode.NextestRunMode.{NextestRunMode}
use Rattle.nextest_elements.specs.declared.run_mode.NextestRunMode.TheVariants.{Test, Benchmark}
use Rattle.nextest_engines.specs.declared.queries.BuildPlatform.{BuildPlatform}
use Rattle.nextest_engines.specs.declared.queries.BuildPlatform.TheVariants.{Host, Target}
use Rattle.nextest_rules.specs.declared.overrides.CompiledOverride.{CompiledOverride}
use Rattle.nextest_rules.specs.declared.overrides.CompiledProfileScripts.{CompiledProfileScripts}
use Rattle.rule_lists.specs.Lists.{IsListOf}
use Rattle.rule_lists.specs.Rows.{list_at, rows_of}
use Rattle.rule_lists.proofs.Columns.{column-list}
use Rattle.nextest_settings.specs.Index.{IsIndex, IsPlatformIndex, is_listed, names_wrapper, override_tests, script_tests, rows_in, wrapper_rows_in, platform_rows, setting_list, wrapper_list}
use Rattle.nextest_elements.specs.Settings.{index_of, settings}
use Rattle.nextest_settings.specs.Settings.{is_set}
use Rattle.nextest_settings.specs.View.{evaluated_override_view, evaluated_script_rule_view}
use Rattle.nextest_settings.specs.declared.index.PlatformIndex.{PlatformIndex}
use Rattle.nextest_settings.specs.declared.index.RuleIndex.{RuleIndex}
use Rattle.nextest_settings.specs.declared.index.Wrapper.{Wrapper}
use Rattle.nextest_settings.specs.declared.index.Wrapper.TheVariants as wrappers
use Rattle.nextest_settings.specs.declared.platforms.EvaluatedRule.{EvaluatedRule as EvaluatedRule'}
use Rattle.nextest_elements.specs.declared.setting.Setting.{Setting}
use Rattle.nextest_elements.proofs.StandsOnce.{at_place}

module _ {F S E T N P : Type 0} (overrides : List (EvaluatedRule' (CompiledOverride F S E T N P)))
    (script_rules : List (EvaluatedRule' (CompiledProfileScripts F S E T N P))) where
  rows-on : (platform : BuildPlatform) (index : PlatformIndex)
      → IsPlatformIndex platform overrides script_rules index → (mode : NextestRunMode)
      → rows_in index mode ≡ rows_of (override_tests platform mode) 0 overrides
  rows-on platform index is Test = is.in_test
  rows-on platform index is Benchmark = is.in_benchmark

  wrappers-on : (platform : BuildPlatform) (index : PlatformIndex)
      → IsPlatformIndex platform overrides script_rules index → (wrapper : Wrapper)
      → wrapper_rows_in index wrapper ≡ rows_of (script_tests platform wrapper) (length overrides) script_rules
  wrappers-on platform index is wrappers.Run = is.run_wrappers
  wrappers-on platform index is wrappers.List = is.list_wrappers

  module _ (index : RuleIndex) (is : IsIndex overrides script_rules index) where
    pub rows-are : (platform : BuildPlatform) (mode : NextestRunMode)
        → rows_in (platform_rows index platform) mode ≡ rows_of (override_tests platform mode) 0 overrides
    rows-are Host mode = rows-on Host index.host is.host mode
    rows-are Target mode = rows-on Target index.target is.target mode

    pub wrappers-are : (platform : BuildPlatform) (wrapper : Wrapper)
        → wrapper_rows_in (platform_rows index platform) wrapper
        ≡ rows_of (script_tests platform wrapper) (length overrides) script_rules
    wrappers-are Host wrapper = wrappers-on Host index.host is.host wrapper
    wrappers-are Target wrapper = wrappers-on Target index.target is.target wrapper

    pub setting-list-is : (platform : BuildPlatform) (mode : NextestRunMode) (s : Setting)
        → IsListOf (is_listed platform (λ w. is_set w.settings mode s)) 0
        (map evaluated_override_view overrides) (setting_list index platform mode s)
    setting-list-is platform mode s =
        subst (λ rows. IsListOf (is_listed platform (λ w. is_set w.settings mode s)) 0
        (map evaluated_override_view overrides) (list_at (index_of s) rows)) (sym (rows-are platform mode))
        (column-list (λ t rule. is_listed platform (λ w. is_set w.settings mode t)
        (evaluated_override_view rule)) evaluated_override_view
        (is_listed platform (λ w. is_set w.settings mode s)) settings 0 overrides (index_of s) s
        (λ r. refl) (at_place s))

    pub wrapper-list-is : (platform : BuildPlatform) (wrapper : Wrapper)
        → IsListOf (is_listed platform (names_wrapper wrapper)) (length overrides)
        (map evaluated_script_rule_view script_rules) (wrapper_list index platform wrapper)
    wrapper-list-is platform wrapper =
        subst (λ rows. IsListOf (is_listed platform (names_wrapper wrapper)) (length overrides)
        (map evaluated_script_rule_view script_rules) (list_at 0 rows)) (sym (wrappers-are platform wrapper))
        (column-list (λ named rule. is_listed platform (names_wrapper named)
        (evaluated_script_rule_view rule)) evaluated_script_rule_view
        (is_listed platform (names_wrapper wrapper)) (wrapper ∷ []) (length overrides) script_rules 0 wrapper
        (λ r. refl) refl)
