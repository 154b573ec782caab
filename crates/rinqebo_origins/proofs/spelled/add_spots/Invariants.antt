use Rattle.std.proofs.Common.{◌≡◌, ◌-◌, ◌++◌, map, option_map}
use Rattle.rinqebo_origins.specs.SpelledLeaves.{spot_view, spots_at}
use Rattle.rinqebo_origins.proofs.spelled.add_spots.Given as goal

-- the places so far, and those of the layers that are left
abbrev pub invariant-down : goal.invariant-down
invariant-down l =
    map spot_view l.spots.items ++ spots_at (option_map (λ name. name.now) l.profile) l.key (l.count - l.back)
    ≡ map spot_view l.initial.spots.items ++ spots_at (option_map (λ name. name.now) l.profile) l.key l.count
