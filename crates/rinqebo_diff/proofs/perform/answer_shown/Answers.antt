use Rattle.rinqebo_diff.proofs.perform.answer_shown.Goals as goal

pub returns-clause-errors : goal.returns-clause-errors
returns-clause-errors g c quiet = cc
