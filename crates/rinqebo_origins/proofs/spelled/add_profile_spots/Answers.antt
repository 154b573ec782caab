use Rattle.rinqebo_origins.proofs.SpelledLeaves.{three_behind}
use Rattle.rinqebo_origins.proofs.spelled.add_profile_spots.Goals as goal

pub returns : goal.returns
returns c =
    three_behind _ _ _ _ _ _ _ c.in_ok-add_spots.ensures c.in_ok-add_spots-2.ensures c.in_ok-add_spots-3.ensures
