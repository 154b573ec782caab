-- The rules that may write a setting, and what each writes for it.
use Rattle.std.specs.Prelude.{Bool, true, false, if◌then◌else◌, is_some, List, map, Option, option_map}
use Rattle.nextest_elements.specs.declared.run_mode.NextestRunMode.{NextestRunMode}
use Rattle.nextest_rules.specs.Rules.{Compiled, OverrideUse, ScriptRuleUse}
use Rattle.nextest_settings.specs.Platforms.{EvaluatedRule}
use Rattle.nextest_settings.specs.Settings.{sets}
use Rattle.nextest_elements.specs.declared.setting.Setting.{Setting}
use Rattle.nextest_elements.specs.declared.setting.Setting.TheVariants as at
use Rattle.rinqebo_origins.specs.Reported.{ReportedValue, reported_of}
use Rattle.rinqebo_origins.specs.RulePlaces.{Place, id_place, script_place}

-- the place of a rule, and what it writes for a setting as it is reported, if it writes it
pub record RuleValue : Type 0 where
  pub place : Place
  pub value : Option ReportedValue

-- whether a rule writes the setting
abbrev pub writes_it : RuleValue → Bool
writes_it written = is_some written.value

-- a rule, with its place and what it writes for a setting
abbrev pub RuleFor : Type 0 → Type 0 → Type 0
RuleFor M K = Compiled M K RuleValue

-- a rule for a setting, by what a rule writes for it
abbrev pub for_setting : {M K W : Type 0} → (W → RuleValue) → Compiled M K W → RuleFor M K
for_setting writes rule = record {
  host = rule.host;
  target = rule.target;
  filter = rule.filter;
  writes = writes rule.writes;
}

-- a rule on the platforms of a build for a setting, the same way
abbrev pub on_setting : {M W : Type 0} → (W → RuleValue) → EvaluatedRule M W
    → EvaluatedRule M RuleValue
on_setting writes rule = record {
  filter = rule.filter;
  for_host = rule.for_host;
  for_target = rule.for_target;
  writes = writes rule.writes;
}

-- what an override writes for a setting, in a mode
abbrev pub override_writes : {M : Type 0} → Setting → NextestRunMode → OverrideUse M → RuleValue
override_writes s mode written = record {
  place = id_place written.id;
  value = option_map (reported_of s) (sets written.settings mode s);
}

-- the run wrapper that a script rule names
abbrev pub wrapper_written : ScriptRuleUse → RuleValue
wrapper_written written = record {
  place = script_place written.id;
  value = option_map (reported_of at.RunWrapper) written.scripts.run_wrapper;
}

-- Whether script rules write a setting. They name run wrappers.
abbrev pub is_of_scripts : Setting → Bool
is_of_scripts at.RunWrapper = true
is_of_scripts s = false

-- Of the rules of a profile, those that may write a setting, with what each writes for it: script
-- rules for run wrappers, overrides for all other settings.
abbrev pub rules_for : {M K : Type 0} → Setting → NextestRunMode
    → List (Compiled M K (OverrideUse M)) → List (Compiled M K ScriptRuleUse) → List (RuleFor M K)
rules_for s mode overrides script_rules =
    if is_of_scripts s then map (for_setting wrapper_written) script_rules
    else map (for_setting (override_writes s mode)) overrides
