use Rattle.std.proofs.Common.{◌≡◌, map, take}
use Rattle.nextest_rules.specs.View.{layer_view}
use Rattle.nextest_settings.specs.Chains.{overrides_of, script_rules_of}
use Rattle.nextest_settings.specs.View.{override_ref_view, script_rule_ref_view}
use Rattle.nextest_settings.proofs.gather.rules_of.Given as goal

abbrev pub invariant-loop-name : goal.invariant-loop-name
invariant-loop-name g l =
    let layers = map layer_view l.layers in
    let names = map (λ name. name.now) (take l.name-index l.names) in
    record {
      overrides : map override_ref_view l.rules.overrides.items ≡ overrides_of layers names;
      script_rules : map script_rule_ref_view l.rules.script_rules.items
          ≡ script_rules_of layers names;
    }
