use Rattle.std.proofs.Common.{◌++◌, ◌∙◌, ap, flat_map, refl, sym}
use Rattle.std.proofs.lemmas.List.{take_all}
use Rattle.std.proofs.lemmas.List.Folds.{flat_map-map}
use Rattle.rinqebo_origins.specs.SpelledLeaves.{file_spots, profile_spots}
use Rattle.rinqebo_origins.proofs.SpelledLeaves.{flat_step}
use Rattle.rinqebo_origins.proofs.spelled.spots_of.Goals as goal

pub loop-name-preserved : goal.loop-name-preserved
loop-name-preserved c =
    flat_step (λ name. profile_spots c.args.count name.now) c.args.chain.now c.loop-name.name-index _ _
    c.loop-name-test.true refl _ _ c.loop-name.invariant c.in_ok-add_profile_spots.ensures

pub returns : goal.returns
returns c =
    let count = c.args.count in
    c.in_ok-add_file_spots.ensures
    ∙ ap (λ l. l ++ file_spots count) (c.loop-name.invariant
    ∙ ap (flat_map (λ name. profile_spots count name.now))
    (take_all c.loop-name.name-index c.args.chain.now c.loop-name-test.false)
    ∙ sym (flat_map-map (profile_spots count) (λ name. name.now) c.args.chain.now))
