use Rattle.std.proofs.Common.{option_map, take}
use Rattle.std.specs.List.{AllZip}
use Rattle.rinqebo_origins.specs.ProfileOrigins.{IsLayerOrigin}
use Rattle.rinqebo_origins.proofs.grounds.origins_at.Given as goal

-- the origins so far
abbrev pub invariant-loop-position : goal.invariant-loop-position
invariant-loop-position l =
    AllZip (IsLayerOrigin l.layers l.profile (option_map (λ table. table.now) l.key.table) l.key.key.now)
    (take l.position-index l.positions) l.origins.items
