use Rattle.std.proofs.Common.{◌≡◌, flat_map, map, take}
use Rattle.rinqebo_origins.specs.SpelledLeaves.{profile_spots, spot_view}
use Rattle.rinqebo_origins.proofs.spelled.spots_of.Given as goal

-- the places under the profiles so far
abbrev pub invariant-loop-name : goal.invariant-loop-name
invariant-loop-name l =
    map spot_view l.spots.items ≡ flat_map (λ name. profile_spots l.count name.now) (take l.name-index l.chain)
