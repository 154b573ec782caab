use Rattle.std.proofs.Common.{◌≡◌, flat_map, map, take}
use Rattle.rinqebo_origins.specs.SpelledLeaves.{spelled_view, spot_leaves, spot_view}
use Rattle.rinqebo_origins.proofs.spelled.spelled_leaves.Given as goal

-- the leaves at the places so far
abbrev pub invariant-loop-spot : goal.invariant-loop-spot
invariant-loop-spot l =
    map spelled_view l.leaves.items
    ≡ flat_map (λ spot. spot_leaves l.layers (spot_view spot)) (take l.spot-index l.spot-items)
