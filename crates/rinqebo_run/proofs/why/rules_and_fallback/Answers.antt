use Rattle.std.proofs.Common.{◌≡◌, ◌∙◌, All, List, ap, map, option_map, subst}
use Rattle.std.proofs.lemmas.List.Elements.{All-push}
use Rattle.rinqebo_keys.specs.Keys.{key_name, key_table}
use Rattle.rinqebo_origins.specs.Origins.{PathStep, key_steps}
use Rattle.rinqebo_rules.specs.RuleViews.{setting_rule_view}
use Rattle.rinqebo_rules.specs.SettingRules.{rules_for}
use Rattle.rinqebo_run.proofs.Gathering.{reasons_here}
use Rattle.rinqebo_results.specs.Reasons.{IsRuleAsWritten}
use Rattle.rinqebo_run.proofs.why.rules_and_fallback.Goals as goal

pub returns : goal.returns
returns c =
    let platforms = c.args.session.now.engines.platforms in
    let profile = c.args.profile.now in
    let written = rules_for c.args.setting c.args.test.now.mode profile.overrides profile.script_rules in
    let judged = ap (map setting_rule_view) c.deref-2.ensures.value
    ∙ c.in_ok-rules.ensures _ _ (rw c.asking_of-asking.ensures.platforms c.in_ok-on.ensures.overrides)
    (rw c.asking_of-asking.ensures.platforms c.in_ok-on.ensures.script_rules) in
    let told = rw (
      c.deref.ensures.value,
      c.asking_of-asking.ensures.platforms,
      c.asking_of-asking.ensures.query,
      c.asking_of-asking.ensures.default_filter,
    ) at (c.in_ok-reported.ensures.told c.asking_of-asking.result written judged) in
    let layers = c.args.session.now.layers.items in
    let before = c.in_ok-reported.reported.items in
    let key = c.of-key.result in
    let held : List PathStep = key_steps (option_map (λ table. table.now) key.table) key.key.now in
    let steps : List PathStep = key_steps (key_table c.args.setting c.args.test.now.mode) (key_name c.args.setting) in
    let same : held ≡ steps = λ i. key_steps (c.of-key.ensures.table i) (c.of-key.ensures.key i) in
    let written : All (IsRuleAsWritten layers steps) before =
    subst (λ ss. All (IsRuleAsWritten layers ss) before) same
    (subst (λ ls. All (IsRuleAsWritten ls held) before) c.deref.ensures.value c.in_ok-reported.ensures.written) in
    reasons_here c.args.session.now.layers.items platforms c.args.test.now c.listed-listed.result.query c.args.setting _
    profile c.in_ok-reported.reported.items c.in_ok-fallback.fallback _ _ c.in_ok-on.ensures.default_filter
    (ap (λ t. t.test) c.listed-listed.ensures) told
    c.in_ok-fallback.ensures.verdict c.in_ok-fallback.ensures.value c.in_ok-fallback.ensures.origins
    c.in_ok-fallback.ensures.conditions
    c.in_ok-push.ensures.items
    (rw c.in_ok-push.ensures.items
    (All-push (IsRuleAsWritten layers steps) before c.in_ok-fallback.fallback written c.in_ok-fallback.ensures.written))
