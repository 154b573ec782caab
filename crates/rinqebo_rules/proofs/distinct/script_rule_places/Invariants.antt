use Rattle.std.proofs.Common.{◌≡◌, map, take}
use Rattle.nextest_settings.specs.View.{meant_script_rule}
use Rattle.rinqebo_origins.specs.RulePlaces.{script_place, place_view}
use Rattle.rinqebo_rules.proofs.distinct.script_rule_places.Given as goal

-- the places of the script rules so far
abbrev pub invariant-loop-rule : goal.invariant-loop-rule
invariant-loop-rule g l =
    map place_view l.places.items
    ≡ map (λ rule. script_place (meant_script_rule g.F.Filters.meaning rule).writes.id) (take l.rule-index l.rules)
