-- What rules say of a test: what is known of them, and what their conditions say.
use Rattle.std.specs.Prelude.{Bool, Option, Some}
use Rattle.filter_language.specs.declared.filterset.Filterset.{Filterset}
use Rattle.nextest_engines.specs.Engines.{test_view}
use Rattle.nextest_engines.specs.declared.queries.BuildPlatforms.{BuildPlatforms}
use Rattle.filter_engine.specs.declared.compiling.FieldMatcher.{FieldMatcher}
use Rattle.nextest_rules.specs.Rules.{Compiled}
use Rattle.nextest_settings.specs.Deciding.{QueryContext}
use Rattle.nextest_settings.specs.Platforms.{EvaluatedRule, is_on, rule_on, runs_on}
use Rattle.nextest_settings.specs.Queries.{test_query}
use Rattle.platform_language.specs.declared.expression.TargetSpec.{TargetSpec}
use Rattle.rinqebo_rules.specs.declared.conditions.Answers.{Answers}
use Rattle.rinqebo_rules.specs.declared.conditions.Asking.{Asking}
use Rattle.rinqebo_rules.specs.declared.verdict.RuleFacts.{RuleFacts}
use Rattle.rinqebo_rules.specs.Conditions.{reported_condition, is_met_by, filter_matches, requested_if}
use Rattle.rinqebo_rules.specs.SettingRules.{RuleFor, RuleValue, writes_it}
use Rattle.rinqebo_rules.specs.Verdicts.{facts_of}

-- What the conditions of a rule say that is this on the platforms of a build: its filter is
-- evaluated where these hold.
abbrev pub answers_on : {M K P W : Type 0} → (K → P → Option Bool) → BuildPlatforms P
    → QueryContext M → Compiled M K W → EvaluatedRule M W → Answers
answers_on meets platforms query rule on = record {
  host = reported_condition (λ spec. meets spec platforms.host) rule.host;
  target = reported_condition (λ spec. meets spec (runs_on platforms query.platform)) rule.target;
  filter = requested_if (is_on on query.platform)
      (reported_condition (λ filter. Some (query.matches filter)) rule.filter);
}

-- what the conditions of a rule say
abbrev pub answers_by : {M K P W : Type 0} → (K → P → Option Bool) → BuildPlatforms P
    → QueryContext M → Compiled M K W → Answers
answers_by meets platforms query rule =
    answers_on meets platforms query rule (rule_on meets platforms rule)

-- the test of a request, as rules are judged for it
abbrev pub requested_query : Asking → QueryContext (Filterset FieldMatcher)
requested_query asking =
    test_query filter_matches asking.default_filter.now (test_view asking.query.now)

-- What is found out of a rule that may write a setting: its place and what it writes, what is known
-- of it, and what its conditions say.
pub record Judged : Type 0 where
  pub writes : RuleValue
  pub facts : RuleFacts
  pub answers : Answers

-- what is found out of a rule that is this on the platforms of a build
abbrev pub judged : Asking → RuleFor (Filterset FieldMatcher) TargetSpec
    → EvaluatedRule (Filterset FieldMatcher) RuleValue → Judged
judged asking rule on = record {
  writes = rule.writes;
  facts = facts_of (requested_query asking) writes_it on;
  answers = answers_on is_met_by asking.platforms.now (requested_query asking) rule on;
}

-- what is found out of a rule on the platforms of the build
abbrev pub judged_here : Asking → RuleFor (Filterset FieldMatcher) TargetSpec → Judged
judged_here asking rule = judged asking rule (rule_on is_met_by asking.platforms.now rule)
