use Rattle.std.proofs.Common.{◌∙◌, ap}
use Rattle.nextest_settings.specs.View.{override_ref_view}
use Rattle.rinqebo_rules.specs.Conditions.{is_met_by, reported_condition}
use Rattle.rinqebo_rules.specs.FilterRules.{filter_facts}
use Rattle.rinqebo_origins.specs.RulePlaces.{id_place}
use Rattle.rinqebo_rules.proofs.default_rules.filter_rule.Goals as goal

pub returns : goal.returns
returns c =
    let platforms = c.args.platforms.now in
    let same = c.rule-written.ensures in
    let place = c.of_override.ensures
    ∙ ap id_place (c.id.ensures ∙ ap (λ r. (override_ref_view r).writes.id) same) in
    let facts = c.filter_facts.ensures ∙ ap filter_facts c.is_on.ensures in
    let host = c.spec_answer.ensures ∙ ap (reported_condition (λ s. is_met_by s platforms.host))
    (c.platforms-specs.ensures.host ∙ ap (λ r. (override_ref_view r).host) same) in
    let specs = c.platforms-specs.ensures.target ∙ ap (λ r. (override_ref_view r).target) same in
    let target = c.spec_answer-2.ensures
    ∙ (λ i. reported_condition (λ s. is_met_by s (c.runs_on-target.ensures i)) (specs i)) in
    λ i. record {
      place = place i;
      facts = facts i;
      host = host i;
      target = target i;
    }
