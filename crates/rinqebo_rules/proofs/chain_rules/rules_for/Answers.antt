use Rattle.std.proofs.Common.{◌≡◌, ◌∙◌, Bool, true, false, ap, if◌then◌else◌, map, sym}
use Rattle.nextest_settings.specs.Platforms.{rule_on}
use Rattle.nextest_settings.specs.View.{override_ref_view, script_rule_ref_view, evaluated_override_view, evaluated_script_rule_view}
use Rattle.rinqebo_rules.proofs.Judged.{made_of_both}
use Rattle.rinqebo_rules.proofs.ListedTests.{made_twice}
use Rattle.rinqebo_origins.proofs.Results.{ok_same}
use Rattle.rinqebo_rules.specs.Conditions.{is_met_by}
use Rattle.rinqebo_rules.specs.RuleAnswers.{judged, judged_here}
use Rattle.rinqebo_rules.specs.RuleViews.{setting_rule_view}
use Rattle.rinqebo_rules.specs.SettingRules.{for_setting, on_setting, override_writes, wrapper_written}
use Rattle.rinqebo_rules.proofs.chain_rules.rules_for.Goals as goal

-- the first of two, by a test that holds
first_chosen : {X : Type 0} (b t : Bool) (x y : X) → t ≡ b → t ≡ true → x ≡ (if b then x else y)
first_chosen b t x y same is = ap (λ b. if b then x else y) (sym is ∙ same)

-- the second of two, by a test that does not hold
second_chosen : {X : Type 0} (b t : Bool) (x y : X) → t ≡ b → t ≡ false → y ≡ (if b then x else y)
second_chosen b t x y same is = ap (λ b. if b then x else y) (sym is ∙ same)

pub returns-then-is_of_scripts : goal.returns-then-is_of_scripts
returns-then-is_of_scripts c = λ overrides scripts on scripts_on.
    let asking = c.args.asking.now in
    let held = c.args.rules.now.script_rules.items in
    let w = wrapper_written in
    ok_same (λ found. map setting_rule_view found.items) c.script_rules.result _ _
    (made_of_both (λ rule on. judged asking (for_setting w rule) (on_setting w on)) (λ e. script_rule_ref_view e.rule)
    evaluated_script_rule_view (rule_on is_met_by asking.platforms.now) held scripts scripts_on.written scripts_on.on
    ∙ sym (made_twice (judged_here asking) (for_setting w) scripts)
    ∙ ap (map (judged_here asking)) (first_chosen _ _ _ _ c.is_of_scripts.ensures c.if-is_of_scripts.true))
    (rw c.deref.ensures.value at c.script_rules.ensures)

pub returns : goal.returns
returns c = λ overrides scripts on scripts_on.
    let asking = c.args.asking.now in
    let held = c.args.rules.now.overrides.items in
    let w = override_writes c.args.setting c.args.mode in
    ok_same (λ found. map setting_rule_view found.items) c.override_rules.result _ _
    (made_of_both (λ rule on. judged asking (for_setting w rule) (on_setting w on)) (λ e. override_ref_view e.rule)
    evaluated_override_view (rule_on is_met_by asking.platforms.now) held overrides on.written on.on
    ∙ sym (made_twice (judged_here asking) (for_setting w) overrides)
    ∙ ap (map (judged_here asking)) (second_chosen _ _ _ _ c.is_of_scripts.ensures c.if-is_of_scripts.false))
    (rw c.deref-2.ensures.value at c.override_rules.ensures)
