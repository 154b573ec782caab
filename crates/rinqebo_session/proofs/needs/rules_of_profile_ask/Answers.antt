use Rattle.std.proofs.Common.{◌∙◌, ◌||◌, Bool, ap, map, sym}
use Rattle.std.specs.List.{list_any}
use Rattle.filter_language.proofs.FieldsAsked.{any_of_views}
use Rattle.nextest_settings.specs.View.{evaluated_override_view, evaluated_script_rule_view}
use Rattle.rinqebo_session.specs.Needs.{rule_asks}
use Rattle.rinqebo_session.proofs.needs.rules_of_profile_ask.Goals as goal

pub returns : goal.returns
returns c =
    let platform = c.args.platform in
    let field = c.args.field in
    let profile = c.args.profile.now in
    let held = c.rules.result.now in
    let scripts : Bool = list_any (rule_asks platform field) (map evaluated_script_rule_view held.script_rules.items) in
    c.rules_ask.ensures
    ∙ ap (λ b. b || list_any (λ rule. rule_asks platform field (evaluated_script_rule_view rule)) held.script_rules.items)
    (sym (any_of_views (rule_asks platform field) evaluated_override_view held.overrides.items))
    ∙ ap (λ b. list_any (rule_asks platform field) (map evaluated_override_view held.overrides.items) || b)
    (sym (any_of_views (rule_asks platform field) evaluated_script_rule_view held.script_rules.items))
    ∙ ap (λ rules. list_any (rule_asks platform field) rules || scripts) c.rules.ensures.overrides
    ∙ ap (λ rules. list_any (rule_asks platform field) profile.overrides || list_any (rule_asks platform field) rules)
    c.rules.ensures.script_rules
