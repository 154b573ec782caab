use Rattle.std.proofs.Common.{◌∙◌, ap, is_some, option_map, refl, sym}
use Rattle.filter_language.specs.Filtersets.{marks_view}
use Rattle.nextest_engines.specs.Engines.{test_view}
use Rattle.nextest_rules.specs.Meaning.{use_meaning}
use Rattle.nextest_settings.proofs.Held.{is_held}
use Rattle.nextest_settings.specs.Deciding.{rule_holds}
use Rattle.nextest_settings.specs.Platforms.{is_on, runs_on}
use Rattle.nextest_settings.specs.Queries.{test_query}
use Rattle.nextest_settings.specs.Settings.{sets}
use Rattle.nextest_settings.specs.SettingValues.{by_kind}
use Rattle.nextest_settings.specs.View.{override_ref_view, evaluated_override_view, meant_override}
use Rattle.filter_engine.specs.Compiling.{names_of}
use Rattle.filter_engine.specs.Engine.{filter_holds}
use Rattle.rinqebo_rules.specs.Conditions.{is_met_by, reported_by_facts, reported_condition}
use Rattle.rinqebo_origins.specs.RulePlaces.{id_place}
use Rattle.rinqebo_rules.specs.SettingRules.{override_writes}
use Rattle.rinqebo_origins.specs.SettingValues.{reported_value}
use Rattle.rinqebo_rules.specs.declared.verdict.RuleFacts.{RuleFacts}
use Rattle.rinqebo_rules.proofs.Judged.{holds_meant, rule_judged}
use Rattle.rinqebo_rules.proofs.ReportedOf.{reported_by_kind}
use Rattle.rinqebo_rules.proofs.chain_rules.override_rule.Goals as goal

pub returns : goal.returns
returns c =
    let s = c.args.setting in
    let asking = c.args.asking.now in
    let test = test_view asking.query.now in
    let rule = c.args.rule.now in
    let same = c.rule-written.ensures in
    let value = reported_by_kind s c.value-value.result _ (c.value-value.ensures
    ∙ ap (λ written. option_map (by_kind s) (sets written c.args.mode s))
    (c.settings.ensures ∙ ap (λ r. (override_ref_view r).writes.settings) same)) in
    let place = c.of_override.ensures
    ∙ ap id_place (c.id.ensures ∙ ap (λ r. (override_ref_view r).writes.id) same) in
    let filter = c.filter.ensures ∙ ap (λ r. (override_ref_view r).filter) same in
    let holds = c.override_holds.ensures.answer
    ∙ (λ i. rule_holds (test_query filter_holds (marks_view names_of (c.context.ensures i)) test)
    (meant_override (marks_view names_of) rule))
    ∙ holds_meant (marks_view names_of) (use_meaning (marks_view names_of))
    (λ m. filter_holds m test (marks_view names_of asking.default_filter.now)) test.binary.platform
    (evaluated_override_view rule) in
    let facts : RuleFacts = record {
      is_on = c.is_on.result;
      holds = c.override_holds.result;
      writes = c.is_some.result;
    } in
    rule_judged asking (override_writes s c.args.mode) (override_ref_view rule.rule) (evaluated_override_view rule) _
    refl refl (λ i. record { place = place i; value = value i })
    (c.is_on.ensures ∙ ap (λ p. is_on (evaluated_override_view rule) p) c.platform.ensures) holds
    (c.is_some.ensures ∙ sym (is_held reported_value c.value-value.result))
    (c.answers_of.ensures.host ∙ ap (reported_condition (λ s. is_met_by s asking.platforms.now.host))
    (c.platforms.ensures.host ∙ ap (λ r. (override_ref_view r).host) same))
    (c.answers_of.ensures.target
    ∙ ap (reported_condition (λ s. is_met_by s (runs_on asking.platforms.now test.binary.platform)))
    (c.platforms.ensures.target ∙ ap (λ r. (override_ref_view r).target) same))
    (c.answers_of.ensures.filter ∙ ap (λ b. reported_by_facts b facts) (sym (is_held (λ f. f.now) c.filter.result) ∙ ap is_some filter))
