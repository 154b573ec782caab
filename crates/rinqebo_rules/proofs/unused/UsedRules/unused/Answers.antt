use Rattle.std.proofs.Common.{◌∙◌, ap, map, sym}
use Rattle.nextest_settings.specs.View.{evaluated_override_view, evaluated_script_rule_view}
use Rattle.rinqebo_rules.proofs.NoneHold.{meant_overrides}
use Rattle.rinqebo_rules.proofs.ScriptRules.{meant_scripts}
use Rattle.rinqebo_rules.specs.Unused.{is_used, unused_among}
use Rattle.rinqebo_rules.proofs.unused.UsedRules.unused.Goals as goal

pub returns : goal.returns
returns g c = λ tests mode are.
    let F = g.F.Filters in
    let profile = c.args.profile.now in
    let overrides = meant_overrides F.meaning profile c.deref.result.now
    (ap (map evaluated_override_view) c.deref.ensures.value ∙ c.rules-rules.ensures.overrides) in
    let scripts = meant_scripts F.meaning profile c.deref-3.result.now
    (ap (map evaluated_script_rule_view) c.deref-3.ensures.value ∙ c.rules-rules.ensures.script_rules) in
    record {
      overrides = c.in_ok-unmarked_overrides.ensures tests
          (c.deref-2.ensures.value ∙ are.overrides ∙ sym (ap (map (is_used tests)) overrides))
          ∙ ap (λ rules. map (λ rule. rule.writes.id) (unused_among tests rules)) overrides;
      script_rules = c.in_ok-unmarked_script_rules.ensures tests
          (c.deref-4.ensures.value ∙ are.script_rules ∙ sym (ap (map (is_used tests)) scripts))
          ∙ ap (λ rules. map (λ rule. rule.writes.id) (unused_among tests rules)) scripts;
    }
