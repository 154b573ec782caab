use Rattle.std.proofs.Common.{◌≡◌, ◌++◌, map, take}
use Rattle.std.specs.List.{flat_map}
use Rattle.nextest_rules.specs.View.{override_rule_view}
use Rattle.rinqebo_run.specs.OpenFilters.{borrowed, override_filters}
use Rattle.rinqebo_run.proofs.open_filters.add_overrides.Given as goal

-- the filters of the overrides so far
abbrev pub invariant-loop-rule : goal.invariant-loop-rule
invariant-loop-rule l =
    borrowed l.filters.items
    ≡ borrowed l.initial.filters.items
    ++ flat_map override_filters (map override_rule_view (take l.rule-index l.rules))
