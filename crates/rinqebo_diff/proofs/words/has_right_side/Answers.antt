use Rattle.rinqebo_diff.proofs.words.has_right_side.Goals as goal

pub returns : goal.returns
returns c = c.has_any.ensures
