-- What contracts see of rules as code holds them.
use Rattle.std.specs.Prelude.{option_map}
use Rattle.filter_language.specs.declared.filterset.Filterset.{Filterset}
use Rattle.nextest_elements.specs.declared.run_mode.NextestRunMode.{NextestRunMode}
use Rattle.filter_engine.specs.declared.compiling.FieldMatcher.{FieldMatcher}
use Rattle.nextest_rules.specs.Rules.{Compiled, OverrideUse, ScriptRuleUse}
use Rattle.nextest_rules.specs.declared.overrides.CompiledOverride.{CompiledOverride}
use Rattle.nextest_rules.specs.declared.overrides.CompiledProfileScripts.{CompiledProfileScripts}
use Rattle.nextest_settings.specs.View.{override_ref_view, script_rule_ref_view, evaluated_override_view, evaluated_script_rule_view}
use Rattle.nextest_settings.specs.declared.platforms.EvaluatedRule.{EvaluatedRule}
use Rattle.nextest_elements.specs.declared.setting.Setting.{Setting}
use Rattle.platform_language.specs.declared.expression.TargetSpec.{TargetSpec}
use Rattle.rinqebo_rules.specs.RuleAnswers.{Judged, judged}
use Rattle.rinqebo_origins.specs.RulePlaces.{place_view}
use Rattle.rinqebo_rules.specs.SettingRules.{RuleFor, for_setting, on_setting, override_writes, wrapper_written}
use Rattle.rinqebo_origins.specs.SettingValues.{reported_value}
use Rattle.rinqebo_rules.specs.declared.chain_rules.SettingRule.{SettingRule}
use Rattle.rinqebo_rules.specs.declared.conditions.Asking.{Asking}

-- a rule that may write a setting, with its filter and its specs as they were read
abbrev pub Rule : Type 0
Rule = RuleFor (Filterset FieldMatcher) TargetSpec

-- an override, with its filter and its specs as they were read
abbrev pub ReadOverride : Type 0
ReadOverride = Compiled (Filterset FieldMatcher) TargetSpec (OverrideUse (Filterset FieldMatcher))

-- a script rule, the same way
abbrev pub ReadScriptRule : Type 0
ReadScriptRule = Compiled (Filterset FieldMatcher) TargetSpec ScriptRuleUse

-- a rule as code holds it
abbrev pub setting_rule_view : SettingRule → Judged
setting_rule_view rule = record {
  writes = record { place = place_view rule.place; value = option_map reported_value rule.value };
  facts = rule.facts;
  answers = rule.answers;
}

-- what is found out of an override for a setting, in a mode
abbrev pub judged_override : {F S T P : Type 0} → Asking → Setting → NextestRunMode
    → EvaluatedRule (CompiledOverride F S (Filterset FieldMatcher) T TargetSpec P) → Judged
judged_override asking s mode rule =
    judged asking (for_setting (override_writes s mode) (override_ref_view rule.rule))
    (on_setting (override_writes s mode) (evaluated_override_view rule))

-- what is found out of a script rule for the run wrapper
abbrev pub judged_script_rule : {F S T P : Type 0} → Asking
    → EvaluatedRule (CompiledProfileScripts F S (Filterset FieldMatcher) T TargetSpec P) → Judged
judged_script_rule asking rule =
    judged asking (for_setting wrapper_written (script_rule_ref_view rule.rule))
    (on_setting wrapper_written (evaluated_script_rule_view rule))
