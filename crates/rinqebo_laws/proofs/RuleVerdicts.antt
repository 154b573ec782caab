-- The rule that decides gives a setting its value.
use Rattle.std.proofs.Common.{◌≡◌, ◌≢◌, ◌∙◌, ℕ, IsSome, Some, is_some, option_map, slice_get, sym, ap}
use Rattle.std.proofs.lemmas.Option.{slice_get-map}
use Rattle.filter_engine.specs.Engine.{Filter}
use Rattle.nextest_settings.specs.Platforms.{EvaluatedRule, rule_on}
use Rattle.nextest_settings.specs.Settings.{fallback_of}
use Rattle.nextest_elements.specs.declared.setting.Setting.{Setting}
use Rattle.rinqebo_laws.proofs.Deciding.{has_fallback, has_rule, mapped_back}
use Rattle.rinqebo_laws.specs.Verdicts.{Judged, judged_rules, judged_value, judged_verdicts}
use Rattle.rinqebo_origins.specs.Reported.{reported_of}
use Rattle.rinqebo_rules.specs.SettingRules.{RuleValue, rules_for}
use Rattle.rinqebo_rules.specs.declared.verdict.RuleVerdict.TheVariants.{Decides}

-- a setting has what the rule writes that decides
pub judged_by_rule : (j : Judged) (s : Setting) (n : ℕ) (rule : EvaluatedRule Filter RuleValue)
    → slice_get (judged_rules j s) n ≡ Some rule → slice_get (judged_verdicts j s) n ≡ Some Decides
    → IsSome rule.writes.value × (option_map (reported_of s) (judged_value j s) ≡ rule.writes.value)
judged_by_rule j s n rule there decides =
    let on = rule_on j.meets j.platforms in
    let rules = rules_for s j.mode j.overrides j.script_rules in
    let back = mapped_back on (slice_get rules n) rule (sym (slice_get-map on rules n) ∙ there) in
    let has = has_rule j.meets j.platforms j.query j.mode j.overrides j.script_rules j.fields s n back.0 back.1 decides in
    let same = ap (λ (r : EvaluatedRule Filter RuleValue). r.writes.value) back.2 in
    (sym (ap is_some same) ∙ has.some, has.value ∙ same)

-- and its fallback where none decides
pub judged_by_none : (j : Judged) (s : Setting) → ((n : ℕ) → slice_get (judged_verdicts j s) n ≢ Some Decides)
    → judged_value j s ≡ fallback_of j.fields j.mode s
judged_by_none j s never =
    (has_fallback j.meets j.platforms j.query j.mode j.overrides j.script_rules j.fields s never).0
