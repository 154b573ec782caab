use Rattle.std.proofs.Common.{◌≡◌, map, take}
use Rattle.std.specs.List.{flat_map}
use Rattle.nextest_rules.specs.View.{layer_view}
use Rattle.rinqebo_run.specs.OpenFilters.{borrowed, layer_filters}
use Rattle.rinqebo_run.proofs.open_filters.filters_of.Given as goal

-- the filters of the layers so far
abbrev pub invariant-loop-layer : goal.invariant-loop-layer
invariant-loop-layer l =
    borrowed l.filters.items ≡ flat_map layer_filters (map layer_view (take l.layer-index l.layer-items))
