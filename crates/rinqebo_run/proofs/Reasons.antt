-- What is reported of rules is the result of them.
use Rattle.std.proofs.Common.{◌≡◌, ◌∙◌, false, List, map, ap, subst, sym}
use Rattle.std.specs.List.{AllZip, zip}
use Rattle.nextest_settings.specs.Platforms.{rule_on}
use Rattle.rinqebo_request.specs.declared.files.layers.Layer.{Layer}
use Rattle.rinqebo_report.specs.declared.report.Rule.{Rule}
use Rattle.rinqebo_rules.proofs.ListedTests.{made_twice}
use Rattle.rinqebo_rules.proofs.VerdictsOf.{verdicts-facts}
use Rattle.rinqebo_rules.specs.Conditions.{is_met_by}
use Rattle.rinqebo_rules.specs.RuleAnswers.{Judged, answers_by, requested_query, judged_here}
use Rattle.rinqebo_rules.specs.RuleViews.{setting_rule_view, Rule as ReadRule}
use Rattle.rinqebo_rules.specs.SettingRules.{writes_it}
use Rattle.rinqebo_rules.specs.Verdicts.{facts_of, verdicts_of}
use Rattle.rinqebo_rules.specs.VerdictsBy.{verdicts_by}
use Rattle.rinqebo_rules.specs.declared.chain_rules.SettingRule.{SettingRule}
use Rattle.rinqebo_rules.specs.declared.conditions.Asking.{Asking}
use Rattle.rinqebo_rules.specs.declared.verdict.RuleVerdict.{RuleVerdict}
use Rattle.rinqebo_run.proofs.Pairs.{zip_back, zip_moved}
use Rattle.rinqebo_results.specs.Reasons.{AreRulesReportedHere, AreReportedWith, IsRuleReported}

-- the verdicts of what is found out of rules are those that come of them
reported_verdicts : (asking : Asking) (rules : List SettingRule) (written : List ReadRule)
    → map setting_rule_view rules ≡ map (judged_here asking) written
    → verdicts_by false (map (λ rule. rule.facts) rules)
    ≡ verdicts_of (requested_query asking) writes_it (map (rule_on is_met_by asking.platforms.now) written)
reported_verdicts asking rules written same =
    let query = requested_query asking in
    let on = rule_on is_met_by asking.platforms.now in
    ap (verdicts_by false) (sym (made_twice (λ j. j.facts) setting_rule_view rules)
    ∙ ap (map (λ j. j.facts)) same
    ∙ made_twice (λ j. j.facts) (judged_here asking) written
    ∙ sym (made_twice (facts_of query writes_it) on written))
    ∙ sym (verdicts-facts query writes_it (map on written))

-- rules that code holds are reported as the rules of which this is found out
pub reported_here : (layers : List Layer) (asking : Asking) (written : List ReadRule) (rules : List SettingRule)
    (told : List Rule) → map setting_rule_view rules ≡ map (judged_here asking) written
    → AreReportedWith layers rules (verdicts_by false (map (λ rule. rule.facts) rules)) told
    → AreRulesReportedHere layers asking written told
reported_here layers asking written rules told same all =
    let query = requested_query asking in
    let platforms = asking.platforms.now in
    let verdicts = verdicts_by false (map (λ rule. rule.facts) rules) in
    let Held : SettingRule × RuleVerdict → Rule → Type 0 =
    λ p. IsRuleReported layers (setting_rule_view p.0).writes p.0.answers p.1 in
    let Found : Judged × RuleVerdict → Rule → Type 0 = λ p. IsRuleReported layers p.0.writes p.0.answers p.1 in
    let Told : ReadRule × RuleVerdict → Rule → Type 0 =
    λ p. IsRuleReported layers p.0.writes (answers_by is_met_by platforms query p.0) p.1 in
    subst (λ vs. AllZip Told (zip written vs) told) (reported_verdicts asking rules written same)
    (zip_back (judged_here asking) Told Found (λ r v rule is. is) written verdicts told
    (subst (λ js. AllZip Found (zip js verdicts) told) same
    (zip_moved setting_rule_view Held Found (λ r v rule is. is) rules verdicts told all)))
