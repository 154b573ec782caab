use Rattle.std.proofs.Common.{◌≡◌, ◌∙◌, Result, Ok, Err, IfOk, ap, map, option_map, sym}
use Rattle.nextest_settings.specs.Chains.{match_all_filter}
use Rattle.nextest_settings.specs.Engines.{meets_by}
use Rattle.nextest_settings.specs.FilterView.{filter_view}
use Rattle.nextest_settings.specs.Platforms.{default_filter_of, rule_on}
use Rattle.nextest_settings.specs.Profile.{profile_on}
use Rattle.nextest_settings.specs.View.{override_ref_view, script_rule_ref_view}
use Rattle.nextest_settings.specs.Profiles.RulesOn.{AreOverridesOn, AreScriptRulesOn}
use Rattle.nextest_settings.proofs.profiles.KnowsScripts.{fused}
use Rattle.nextest_settings.proofs.profiles.early.EarlyProfile.rules_on.Goals as goal

-- what follows from two facts of a result
ok_both : {T E : Type 0} (P Q R : T → Type 0) (r : Result T E) → ((t : T) → P t → Q t → R t) → IfOk r P
    → IfOk r Q → IfOk r R
ok_both P Q R (Ok t) follows first second = follows t first second
ok_both P Q R (Err e) follows first second = tt

pub returns-clause-overrides : goal.returns-clause-overrides
returns-clause-overrides g c =
    let meets = meets_by g.S.Specs in
    let platforms = c.args.platforms.now in
    let read = ap (λ p. p.overrides) c.self.view_is in
    ok_both _ _ (λ rules. AreOverridesOn meets platforms c.args.self.now.overrides rules.overrides.items)
    c.evaluate.result
    (λ held on same. record {
      written = sym (fused override_ref_view (λ e. e.rule) held.overrides.items)
          ∙ ap (map override_ref_view) same ∙ read;
      on = on ∙ ap (map (rule_on meets platforms)) read;
    })
    c.evaluate.ensures.overrides c.evaluate.ensures.same_overrides

pub returns-clause-script_rules : goal.returns-clause-script_rules
returns-clause-script_rules g c =
    let meets = meets_by g.S.Specs in
    let platforms = c.args.platforms.now in
    let read = ap (λ p. p.script_rules) c.self.view_is in
    ok_both _ _ (λ rules. AreScriptRulesOn meets platforms c.args.self.now.script_rules rules.script_rules.items)
    c.evaluate.result
    (λ held on same. record {
      written = sym (fused script_rule_ref_view (λ e. e.rule) held.script_rules.items)
          ∙ ap (map script_rule_ref_view) same ∙ read;
      on = on ∙ ap (map (rule_on meets platforms)) read;
    })
    c.evaluate.ensures.script_rules c.evaluate.ensures.same_script_rules

pub returns-clause-default_filter : goal.returns-clause-default_filter
returns-clause-default_filter g c =
    let meets = meets_by g.S.Specs in
    let platforms = c.args.platforms.now in
    ok_both _ _ (λ rules. filter_view rules.default_filter
    ≡ (profile_on meets platforms c.args.self.now).default_filter) c.evaluate.result
    (λ held on default. default
    ∙ ap (λ overrides. default_filter_of overrides (option_map filter_view c.self.inside.nearest_filter)
    (match_all_filter c.self.inside.match_all.now)) on
    ∙ ap (λ p. (profile_on meets platforms p).default_filter) c.self.view_is)
    c.evaluate.ensures.overrides c.evaluate.ensures.default_filter
