use Rattle.std.proofs.Common.{◌≡◌, map, drop}
use Rattle.nextest_rules.specs.View.{layer_view}
use Rattle.nextest_settings.specs.Chains.{nearest_filter}
use Rattle.nextest_settings.proofs.default_filter.nearest_filter.Given as goal

abbrev pub invariant-loop-name : goal.invariant-loop-name
invariant-loop-name g l =
    nearest_filter (map layer_view l.layers) (map (λ name. name.now) (drop l.name-index l.names))
    ≡ nearest_filter (map layer_view l.layers) (map (λ name. name.now) l.names)
