use Rattle.std.proofs.Common.{◌≡◌, map, drop, option_and_then}
use Rattle.nextest_rules.specs.Rules.{at_name}
use Rattle.nextest_rules.specs.View.{layer_view}
use Rattle.nextest_settings.specs.Chains.{first_of}
use Rattle.nextest_settings.proofs.default_filter.highest_filter.Given as goal

abbrev pub invariant-loop-layer : goal.invariant-loop-layer
invariant-loop-layer g l =
    first_of (λ layer. option_and_then (λ p. p.default_filter) (at_name l.name layer.profiles))
    (map layer_view (drop l.layer-index l.layers))
    ≡ first_of (λ layer. option_and_then (λ p. p.default_filter) (at_name l.name layer.profiles))
    (map layer_view l.layers)
