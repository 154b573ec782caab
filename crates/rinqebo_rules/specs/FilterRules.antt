-- The overrides that have a default filter: which of them is the one whose default filter counts.
use Rattle.std.specs.Prelude.{List, filter, map, Bool, true, Option, is_some}
use Rattle.nextest_engines.specs.declared.queries.BuildPlatform.TheVariants.{Target}
use Rattle.nextest_engines.specs.declared.queries.BuildPlatforms.{BuildPlatforms}
use Rattle.nextest_rules.specs.Rules.{Compiled, OverrideUse}
use Rattle.nextest_rules.specs.declared.overrides.CompiledOverride.{CompiledOverride}
use Rattle.nextest_settings.specs.Platforms.{platforms_hold, runs_on}
use Rattle.nextest_settings.specs.View.{override_ref_view}
use Rattle.nextest_settings.specs.declared.platforms.EvaluatedRule.{EvaluatedRule}
use Rattle.platform_language.specs.declared.expression.TargetSpec.{TargetSpec}
use Rattle.platform_language.specs.declared.platforms.Platform.{Platform}
use Rattle.rinqebo_report.specs.declared.report.ConditionAnswer.{ConditionAnswer}
use Rattle.rinqebo_rules.specs.Conditions.{is_met_by, reported_condition}
use Rattle.rinqebo_origins.specs.RulePlaces.{Place, id_place, place_view}
use Rattle.rinqebo_rules.specs.declared.chain_rules.SettingRule.{SettingRule}
use Rattle.rinqebo_rules.specs.declared.verdict.RuleFacts.{RuleFacts}

-- What is known of an override that has a default filter: its place, its verdict, and whether its
-- platforms hold for the host and for the target.
pub record FilterRule : Type 0 where
  pub place : Place
  pub facts : RuleFacts
  pub host : ConditionAnswer
  pub target : ConditionAnswer

-- what is known of an override that has a default filter, by whether its platforms hold for
-- binaries of the target: its default filter counts for all tests or for none, whatever its own
-- filter says
abbrev pub filter_facts : Bool → RuleFacts
filter_facts holds = record { is_on = holds; holds = holds; writes = true }

-- whether an override has a default filter
abbrev pub has_default : {M K : Type 0} → Compiled M K (OverrideUse M) → Bool
has_default rule = is_some rule.writes.default_filter

-- what is found out of an override on the platforms of a build, by whether its platforms hold for
-- binaries of the target
abbrev pub filter_rule : {M K P : Type 0} → (K → P → Option Bool) → BuildPlatforms P → Bool
    → Compiled M K (OverrideUse M) → FilterRule
filter_rule meets platforms holds rule = record {
  place = id_place rule.writes.id;
  facts = filter_facts holds;
  host = reported_condition (λ spec. meets spec platforms.host) rule.host;
  target = reported_condition (λ spec. meets spec (runs_on platforms Target)) rule.target;
}

-- what is found out of an override on the platforms of a build
abbrev pub filter_rule_on : {M K P : Type 0} → (K → P → Option Bool) → BuildPlatforms P
    → Compiled M K (OverrideUse M) → FilterRule
filter_rule_on meets platforms rule =
    filter_rule meets platforms (platforms_hold meets platforms Target rule) rule

-- Of the overrides of a profile, those that have a default filter, in order.
abbrev pub filter_rules : {M K P : Type 0} → (K → P → Option Bool) → BuildPlatforms P
    → List (Compiled M K (OverrideUse M)) → List FilterRule
filter_rules meets platforms overrides =
    map (filter_rule_on meets platforms) (filter has_default overrides)

-- such a rule as code holds it
abbrev pub filter_rule_view : SettingRule → FilterRule
filter_rule_view rule = record {
  place = place_view rule.place;
  facts = rule.facts;
  host = rule.answers.host;
  target = rule.answers.target;
}

-- whether an override has a default filter, as code holds it
abbrev pub held_default :
    {F S E T N P : Type 0} → EvaluatedRule (CompiledOverride F S E T N P) → Bool
held_default rule = has_default (override_ref_view rule.rule)

-- what is found out of an override, as code holds it
abbrev pub held_filter_rule : {F S E T P : Type 0} → BuildPlatforms Platform
    → EvaluatedRule (CompiledOverride F S E T TargetSpec P) → FilterRule
held_filter_rule platforms rule =
    filter_rule is_met_by platforms rule.for_target (override_ref_view rule.rule)
