use Rattle.std.proofs.Common.{◌≡◌, ◌++◌, map, take}
use Rattle.std.specs.List.{flat_map}
use Rattle.nextest_rules.specs.View.{layer_view}
use Rattle.nextest_settings.specs.Chains.{in_layer}
use Rattle.nextest_settings.specs.View.{override_ref_view, script_rule_ref_view}
use Rattle.nextest_settings.proofs.gather.with_name.Given as goal

abbrev pub invariant-loop-layer : goal.invariant-loop-layer
invariant-loop-layer g l =
    let layers = map layer_view (take l.layer-index l.layers) in
    record {
      overrides : map override_ref_view l.found.overrides.items
          ≡ map override_ref_view l.fn.found.overrides.items
          ++ flat_map (in_layer (λ p. p.overrides) l.name) layers;
      script_rules : map script_rule_ref_view l.found.script_rules.items
          ≡ map script_rule_ref_view l.fn.found.script_rules.items
          ++ flat_map (in_layer (λ p. p.script_rules) l.name) layers;
    }
