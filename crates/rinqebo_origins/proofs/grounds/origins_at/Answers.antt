use Rattle.std.proofs.Common.{option_map, refl}
use Rattle.rinqebo_origins.specs.ProfileOrigins.{IsLayerOrigin}
use Rattle.rinqebo_origins.proofs.Zips.{zip_more}
use Rattle.rinqebo_origins.proofs.grounds.origins_at.Goals as goal

pub loop-position-preserved : goal.loop-position-preserved
loop-position-preserved c =
    zip_more (IsLayerOrigin c.args.layers.now c.args.profile.now (option_map (λ table. table.now) c.args.key.table)
    c.args.key.key.now) c.args.positions.now c.loop-position.position-index _ _ c.loop-position-test.true refl _ _ _
    c.loop-position.invariant c.in_ok-origin_at.ensures c.in_ok-push.ensures.items
