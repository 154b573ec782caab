use Rattle.std.proofs.Common.{◌≡◌, Global, List, Vec, ap, filter, map, subst, sym, ◌∙◌}
use Rattle.std.proofs.lemmas.List.{take_all}
use Rattle.rinqebo_rules.specs.FilterRules.{filter_rule_view, held_default, held_filter_rule}
use Rattle.rinqebo_rules.specs.declared.chain_rules.SettingRule.{SettingRule}
use Rattle.rinqebo_rules.proofs.FilterRules.{mapped_more, mapped_same}
use Rattle.rinqebo_rules.proofs.default_rules.held_rules.Goals as goal
use Rattle.rinqebo_rules.proofs.default_rules.held_rules.Goals.{then-has_default+in_ok-push, else-has_default}

pub loop-rule-preserved : goal.loop-rule-preserved
loop-rule-preserved c =
    let items : Vec SettingRule Global → List SettingRule = λ v. v.items in
    let platforms = c.args.platforms.now in
    let rules = c.args.overrides.now in
    let n = c.loop-rule.rule-index in
    elim c.if-has_default.branch [
      | then-has_default+in_ok-push w ↦ mapped_more filter_rule_view (held_filter_rule platforms) held_default rules n
          c.rule-item.result c.rule-item.result c.loop-rule-test.true c.rule-item.is c.loop-rule.found.items
          c.if-has_default.found.items w.filter_rule.result c.loop-rule.invariant
          (sym c.has_default.ensures ∙ w.if-has_default.true) w.filter_rule.ensures
          (ap items w.found-is ∙ w.in_ok-push.ensures.items)
      | else-has_default w ↦ ap (map filter_rule_view) (ap items w.found-is)
          ∙ mapped_same filter_rule_view (held_filter_rule platforms) held_default rules n
          c.rule-item.result c.rule-item.result c.loop-rule-test.true c.rule-item.is c.loop-rule.found.items
          c.loop-rule.invariant (sym c.has_default.ensures ∙ w.if-has_default.false)
    ]

pub returns : goal.returns
returns c =
    subst (λ rules. map filter_rule_view c.loop-rule.found.items
    ≡ map (held_filter_rule c.args.platforms.now) (filter held_default rules))
    (take_all c.loop-rule.rule-index c.args.overrides.now c.loop-rule-test.false) c.loop-rule.invariant
