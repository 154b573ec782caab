use Rattle.std.proofs.Common.{◌≡◌, map, take}
use Rattle.nextest_settings.specs.View.{meant_override}
use Rattle.rinqebo_origins.specs.RulePlaces.{id_place, place_view}
use Rattle.rinqebo_rules.proofs.distinct.override_places.Given as goal

-- the places of the overrides so far
abbrev pub invariant-loop-rule : goal.invariant-loop-rule
invariant-loop-rule g l =
    map place_view l.places.items
    ≡ map (λ rule. id_place (meant_override g.F.Filters.meaning rule).writes.id) (take l.rule-index l.rules)
