-- The rules of a setting and the result of each, as a report lists them.
use Rattle.std.specs.Prelude.{◌≡◌, Bool, List, [], ◌∷◌, map, Option, option_map, IfSome}
use Rattle.std.specs.List.{AllZip, zip}
use Rattle.nextest_engines.specs.declared.queries.BuildPlatforms.{BuildPlatforms}
use Rattle.nextest_settings.specs.Deciding.{QueryContext}
use Rattle.nextest_settings.specs.Platforms.{rule_on}
use Rattle.rinqebo_request.specs.declared.files.layers.Layer.{Layer}
use Rattle.rinqebo_report.specs.declared.origin.Origin.{Origin}
use Rattle.rinqebo_report.specs.declared.origin.Origin.TheVariants as kinds
use Rattle.rinqebo_report.specs.declared.report.Rule.{Rule}
use Rattle.rinqebo_report.specs.declared.report.Verdict as report
use Rattle.rinqebo_report.specs.declared.report.Verdict.TheVariants as told
use Rattle.rinqebo_origins.specs.Reported.{value_view}
use Rattle.rinqebo_rules.specs.Verdicts.{verdicts_of}
use Rattle.rinqebo_rules.specs.declared.verdict.RuleVerdict.{RuleVerdict}
use Rattle.rinqebo_rules.specs.declared.verdict.RuleVerdict.TheVariants as verdicts
use Rattle.rinqebo_rules.specs.Conditions.{is_met_by}
use Rattle.rinqebo_origins.specs.AsWritten.{IsValueAsWritten, node_alone}
use Rattle.rinqebo_origins.specs.Origins.{IsOriginOf, PathStep}
use Rattle.rinqebo_rules.specs.RuleAnswers.{answers_by, requested_query}
use Rattle.rinqebo_rules.specs.RuleViews.{setting_rule_view, Rule as ReadRule}
use Rattle.rinqebo_rules.specs.SettingRules.{RuleFor, RuleValue, writes_it}
use Rattle.rinqebo_rules.specs.declared.chain_rules.SettingRule.{SettingRule}
use Rattle.rinqebo_rules.specs.declared.conditions.Answers.{Answers}
use Rattle.rinqebo_rules.specs.declared.conditions.Asking.{Asking}
use Rattle.rinqebo_results.specs.ConditionTexts.{AreTextsReported, IsAbsent, filter_text}

-- a verdict, as a report shows it
abbrev pub page_verdict : RuleVerdict → report.Verdict
page_verdict verdicts.PlatformNo = told.PlatformNo
page_verdict verdicts.FilterNo = told.FilterNo
page_verdict verdicts.SetsNothing = told.SetsNothing
page_verdict verdicts.DecidedBefore = told.DecidedBefore
page_verdict verdicts.Decides = told.Decides

-- A report has a rule: its verdict, its place in the layers, its conditions, with what they say and
-- with their texts, and what it writes for a setting.
pub record IsRuleReported (layers : List Layer) (written : RuleValue) (answers : Answers)
    (verdict : RuleVerdict) (rule : Rule) : Type 0 where
  pub verdict_reported : rule.verdict ≡ page_verdict verdict
  pub origin : IsOriginOf layers written.place [] rule.origin
  pub others : rule.others.items ≡ []
  pub host : rule.host.answer ≡ answers.host
  pub target : rule.target.answer ≡ answers.target
  pub filter : rule.filter.answer ≡ answers.filter
  pub texts : AreTextsReported layers (filter_text layers rule.origin) rule
  pub value : option_map value_view rule.value ≡ written.value

-- some origins, or, where there are none, that nothing is written
abbrev pub or_built_in : List Origin → List Origin
or_built_in [] = kinds.BuiltIn ∷ []
or_built_in (origin ∷ others) = origin ∷ others

-- A report has no conditions of what counts where no rule decides.
pub record HasNoConditions (fallback : Rule) : Type 0 where
  pub host : IsAbsent fallback.host
  pub target : IsAbsent fallback.target
  pub filter : IsAbsent fallback.filter

-- A report has what a rule writes at some steps, with its durations as a file writes them, where
-- one file alone writes the value.
abbrev pub IsRuleAsWritten : List Layer → List PathStep → Rule → Type 0
IsRuleAsWritten layers steps rule = IfSome rule.value
    (IsValueAsWritten (node_alone layers steps (rule.origin ∷ rule.others.items)))

-- A report lists rules for a setting in their order, each with its result.
abbrev pub AreRulesReported : {M K P : Type 0} → List Layer → (K → P → Option Bool)
    → BuildPlatforms P → QueryContext M → List (RuleFor M K) → List Rule → Type 0
AreRulesReported {M} {K} layers meets platforms query rules told = AllZip
    (λ (p : RuleFor M K × RuleVerdict).
    IsRuleReported layers p.0.writes (answers_by meets platforms query p.0) p.1)
    (zip rules (verdicts_of query writes_it (map (rule_on meets platforms) rules)))
    told

-- a report lists rules for a setting, each with its result for what the user requests
abbrev pub AreRulesReportedHere : List Layer → Asking → List ReadRule → List Rule → Type 0
AreRulesReportedHere layers asking rules told =
    AreRulesReported layers is_met_by asking.platforms.now (requested_query asking) rules told

-- a report lists rules as code holds them, with verdicts
abbrev pub AreReportedWith : List Layer → List SettingRule → List RuleVerdict → List Rule → Type 0
AreReportedWith layers rules verdicts told = AllZip
    (λ (p : SettingRule × RuleVerdict).
    IsRuleReported layers (setting_rule_view p.0).writes p.0.answers p.1)
    (zip rules verdicts) told
