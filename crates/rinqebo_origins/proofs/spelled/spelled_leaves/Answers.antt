use Rattle.std.proofs.Common.{◌∙◌, ap, flat_map, map, refl, sym}
use Rattle.std.proofs.lemmas.List.{take_all}
use Rattle.std.proofs.lemmas.List.Folds.{flat_map-map}
use Rattle.rinqebo_origins.specs.SpelledLeaves.{spot_leaves, spot_view}
use Rattle.rinqebo_origins.proofs.SpelledLeaves.{flat_step}
use Rattle.rinqebo_origins.proofs.spelled.spelled_leaves.Goals as goal

pub loop-spot-preserved : goal.loop-spot-preserved
loop-spot-preserved c =
    let layers = c.args.layers.now in
    flat_step (λ spot. spot_leaves layers (spot_view spot)) c.deref-spot-items.result.now c.loop-spot.spot-index _ _
    c.loop-spot-test.true refl _ _ c.loop-spot.invariant c.in_ok-add_spot_leaves.ensures

pub returns : goal.returns
returns c =
    let layers = c.args.layers.now in
    let spots = c.deref-spot-items.result.now in
    c.loop-spot.invariant
    ∙ ap (flat_map (λ spot. spot_leaves layers (spot_view spot)))
    (take_all c.loop-spot.spot-index spots c.loop-spot-test.false)
    ∙ sym (flat_map-map (spot_leaves layers) spot_view spots)
    ∙ ap (flat_map (spot_leaves layers)) (ap (map spot_view) c.deref-spot-items.ensures.value ∙ c.in_ok-spots.ensures)
