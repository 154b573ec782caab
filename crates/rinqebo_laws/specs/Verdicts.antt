-- The verdicts on the rules of a setting, and what the setting has.
use Rattle.std.specs.Prelude.{Bool, List, map, Option}
use Rattle.filter_engine.specs.Engine.{Filter}
use Rattle.nextest_elements.specs.declared.run_mode.NextestRunMode.{NextestRunMode}
use Rattle.nextest_engines.specs.declared.queries.BuildPlatforms.{BuildPlatforms}
use Rattle.nextest_rules.specs.Rules.{Compiled, OverrideUse, ScriptRuleUse}
use Rattle.nextest_settings.specs.Deciding.{QueryContext}
use Rattle.nextest_settings.specs.Platforms.{EvaluatedRule, rule_on}
use Rattle.nextest_settings.specs.Queries.{value_by}
use Rattle.nextest_settings.specs.Settings.{ValueOf}
use Rattle.nextest_elements.specs.declared.setting.Setting.{Setting}
use Rattle.nextest_tables.specs.Written.{WrittenFields}
use Rattle.platform_language.specs.Expressions.{Spec}
use Rattle.platform_language.specs.declared.platforms.Platform.{Platform}
use Rattle.rinqebo_rules.specs.SettingRules.{RuleValue, rules_for, writes_it}
use Rattle.rinqebo_rules.specs.Verdicts.{verdicts_of}
use Rattle.rinqebo_rules.specs.declared.verdict.RuleVerdict.{RuleVerdict}

-- A test and what decides of it: which platforms meet a condition, the platforms of a build, which
-- filters match the test, what it is run for, and the rules and the fields of a profile.
pub record Judged : Type 0 where
  pub meets : Spec → Platform → Option Bool
  pub platforms : BuildPlatforms Platform
  pub query : QueryContext Filter
  pub mode : NextestRunMode
  pub overrides : List (Compiled Filter Spec (OverrideUse Filter))
  pub script_rules : List (Compiled Filter Spec ScriptRuleUse)
  pub fields : List WrittenFields

-- the rules that may write a setting, on the platforms of the build, with what each writes for it:
-- script rules for a run wrapper, overrides for all other settings
abbrev pub judged_rules : Judged → Setting → List (EvaluatedRule Filter RuleValue)
judged_rules j s =
    map (rule_on j.meets j.platforms) (rules_for s j.mode j.overrides j.script_rules)

-- the verdicts on them
abbrev pub judged_verdicts : Judged → Setting → List RuleVerdict
judged_verdicts j s = verdicts_of j.query writes_it (judged_rules j s)

-- the value of a setting for the test
abbrev pub judged_value : Judged → (s : Setting) → Option (ValueOf s)
judged_value j s = value_by j.query j.mode (map (rule_on j.meets j.platforms) j.overrides)
    (map (rule_on j.meets j.platforms) j.script_rules) j.fields s
