use Rattle.std.proofs.Common.{◌∙◌, ◌≤◌, ap, arith, length, option_map, subst, sym}
use Rattle.std.proofs.lemmas.List.{length-map}
use Rattle.nextest_rules.specs.View.{script_rule_id_view}
use Rattle.nextest_settings.specs.View.{meant_script_rule}
use Rattle.rinqebo_rules.proofs.Passing.{wrapper_passed, wrapper_unnamed}
use Rattle.rinqebo_rules.specs.Passed.{IsPlaceOf}
use Rattle.rinqebo_rules.proofs.wrapping.passed_for_wrapper.Goals as goal

pub returns-in-Some : goal.returns-in-Some
returns-in-Some g c = λ query mode profile same are.
    let id = script_rule_id_view c.in-Some.id.now in
    wrapper_passed query profile.script_rules id c.place_of_rule.result
    (ap (option_map (λ uses. uses.id)) (sym are.script_rule) ∙ sym c.in-Some.ensures)
    (subst (IsPlaceOf (λ w. w.id) id c.place_of_rule.result) (sym same) c.place_of_rule.ensures)

pub returns-in-None : goal.returns-in-None
returns-in-None g c = λ query mode profile same are.
    let count = length-map c.args.rules.now (meant_script_rule g.F.Filters.meaning) in
    wrapper_unnamed query profile.script_rules (length c.args.rules.now)
    (subst (λ rules. length rules ≤ length c.args.rules.now) (sym same) (omega (arith, count)))
    (ap (option_map (λ uses. uses.id)) (sym are.script_rule) ∙ sym c.in-None.ensures)
