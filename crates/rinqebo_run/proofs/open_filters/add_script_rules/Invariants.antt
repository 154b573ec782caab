use Rattle.std.proofs.Common.{◌≡◌, ◌++◌, map, take}
use Rattle.std.specs.List.{flat_map}
use Rattle.nextest_rules.specs.View.{script_rule_view}
use Rattle.rinqebo_run.specs.OpenFilters.{borrowed, script_filters}
use Rattle.rinqebo_run.proofs.open_filters.add_script_rules.Given as goal

-- the filters of the script rules so far
abbrev pub invariant-loop-rule : goal.invariant-loop-rule
invariant-loop-rule l =
    borrowed l.filters.items
    ≡ borrowed l.initial.filters.items
    ++ flat_map script_filters (map script_rule_view (take l.rule-index l.rules))
