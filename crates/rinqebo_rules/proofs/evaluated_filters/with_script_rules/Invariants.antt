use Rattle.std.proofs.Common.{◌≡◌, ◌++◌, map, take}
use Rattle.std.specs.List.{flat_map}
use Rattle.filter_engine.specs.Compiling.{names_of}
use Rattle.filter_language.specs.Filtersets.{marks_view}
use Rattle.nextest_settings.specs.View.{meant_script_rule}
use Rattle.rinqebo_rules.specs.EvaluatedFilters.{asks_any, evaluated_of, placed_view}
use Rattle.rinqebo_origins.specs.RulePlaces.{script_place}
use Rattle.rinqebo_rules.proofs.evaluated_filters.with_script_rules.Given as goal

-- the filters of the script rules so far
abbrev pub invariant-loop-rule : goal.invariant-loop-rule
invariant-loop-rule l =
    map placed_view l.all.items
    ≡ map placed_view l.initial.all.items
    ++ flat_map (evaluated_of (asks_any l.fields) (λ w. script_place w.id))
    (map (meant_script_rule (marks_view names_of)) (take l.rule-index l.rules))
