use Rattle.std.proofs.Common.{◌≡◌, ◌-◌, ◌+◌, suc, map, ap, ◌∙◌, arith, option_map}
use Rattle.std.proofs.lemmas.List.{map-append}
use Rattle.rinqebo_origins.specs.SpelledLeaves.{spot_view}
use Rattle.rinqebo_origins.proofs.SpelledLeaves.{all_spots_there, one_spot}
use Rattle.rinqebo_origins.proofs.spelled.add_spots.Goals as goal

pub down-preserved : goal.down-preserved
down-preserved c =
    let count = c.args.count in
    let back = c.down.back in
    let at = count - 1 - back in
    let before : count - back ≡ suc at = omega (arith, c.down-test.true) in
    let after : count - (back + 1) ≡ at = omega (arith, c.down-test.true) in
    one_spot (option_map (λ name. name.now) c.args.profile) c.args.key.now (count - back) (count - (back + 1)) at
    (map spot_view c.down.spots.items) _ (map spot_view c.push.new.self.items) before after c.down.invariant
    (ap (map spot_view) c.in_ok-push.ensures.items ∙ map-append spot_view c.down.spots.items _)

pub returns : goal.returns
returns c =
    all_spots_there (option_map (λ name. name.now) c.args.profile) c.args.key.now (c.args.count - c.down.back)
    (map spot_view c.down.spots.items) _ (omega (arith, c.down-test.false)) c.down.invariant
