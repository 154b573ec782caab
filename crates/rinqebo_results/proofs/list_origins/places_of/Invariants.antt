use Rattle.std.proofs.Common.{◌≡◌, ◌++◌, map, take}
use Rattle.nextest_rules.specs.View.{id_view, script_rule_id_view}
use Rattle.rinqebo_origins.specs.RulePlaces.{id_place, place_view, script_place}
use Rattle.rinqebo_results.proofs.list_origins.places_of.Given as goal

-- the overrides so far
abbrev pub invariant-loop-id : goal.invariant-loop-id
invariant-loop-id l =
    map place_view l.places.items
    ≡ map (λ id. id_place (id_view id.now)) (take l.id-index l.unused.overrides.items)

-- the overrides, and the script rules so far
abbrev pub invariant-loop-rule : goal.invariant-loop-rule
invariant-loop-rule l =
    map place_view l.places.items
    ≡ map (λ id. id_place (id_view id.now)) l.unused.overrides.items
    ++ map (λ id. script_place (script_rule_id_view id.now)) (take l.rule-index l.unused.script_rules.items)
