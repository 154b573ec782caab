use Rattle.std.proofs.Common.{◌∙◌, ap, map}
use Rattle.std.proofs.lemmas.List.{take_all}
use Rattle.nextest_rules.specs.View.{script_rule_view}
use Rattle.nextest_settings.specs.View.{meant_script_rule}
use Rattle.rinqebo_origins.specs.RulePlaces.{script_place, place_view}
use Rattle.rinqebo_rules.proofs.Marked.{shown_more, twice}
use Rattle.rinqebo_rules.proofs.distinct.script_rule_places.Goals as goal

pub loop-rule-preserved : goal.loop-rule-preserved
loop-rule-preserved g c =
    shown_more place_view (λ rule. script_place (meant_script_rule g.F.Filters.meaning rule).writes.id) c.args.rules.now
    c.loop-rule.rule-index _ _ c.loop-rule.places.items _ _ c.loop-rule-test.true c.rule-item.is c.loop-rule.invariant
    c.in_ok-push.ensures.items
    (c.of_script.ensures ∙ ap script_place (c.id.ensures ∙ ap (λ r. (script_rule_view r.now).writes.id) c.rule.ensures))

pub returns : goal.returns
returns g c =
    c.loop-rule.invariant
    ∙ ap (map (λ rule. script_place (meant_script_rule g.F.Filters.meaning rule).writes.id))
    (take_all c.loop-rule.rule-index c.args.rules.now c.loop-rule-test.false)
    ∙ twice script_place (λ r. r.writes.id) (meant_script_rule g.F.Filters.meaning) c.args.rules.now
