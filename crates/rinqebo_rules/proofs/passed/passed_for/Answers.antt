use Rattle.std.proofs.Common.{◌∙◌, ◌≤◌, ap, arith, length, subst, sym}
use Rattle.std.proofs.lemmas.List.{length-map}
use Rattle.nextest_rules.specs.View.{id_view}
use Rattle.nextest_settings.specs.View.{meant_override}
use Rattle.rinqebo_rules.proofs.Passing.{setting_passed, setting_undecided}
use Rattle.rinqebo_rules.specs.Passed.{IsPlaceOf, override_in}
use Rattle.rinqebo_rules.proofs.passed.passed_for.Goals as goal

pub returns-in-Some : goal.returns-in-Some
returns-in-Some g c = λ query mode profile same are.
    let id = id_view c.in-Some.id.now in
    setting_passed query mode profile.overrides profile.script_rules c.args.setting id c.place_of_id.result
    (ap override_in (sym (are.origins c.args.setting)) ∙ sym c.in-Some.ensures)
    (subst (IsPlaceOf (λ w. w.id) id c.place_of_id.result) (sym same) c.place_of_id.ensures)

pub returns-in-None : goal.returns-in-None
returns-in-None g c = λ query mode profile same are.
    let count = length-map c.args.rules.now (meant_override g.F.Filters.meaning) in
    setting_undecided query mode profile.overrides profile.script_rules c.args.setting (length c.args.rules.now)
    (subst (λ rules. length rules ≤ length c.args.rules.now) (sym same) (omega (arith, count)))
    (ap override_in (sym (are.origins c.args.setting)) ∙ sym c.in-None.ensures)
