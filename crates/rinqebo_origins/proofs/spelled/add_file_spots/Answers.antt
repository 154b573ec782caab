use Rattle.rinqebo_origins.proofs.SpelledLeaves.{two_behind}
use Rattle.rinqebo_origins.proofs.spelled.add_file_spots.Goals as goal

pub returns : goal.returns
returns c = two_behind _ _ _ _ _ c.in_ok-add_spots.ensures c.in_ok-add_spots-2.ensures
