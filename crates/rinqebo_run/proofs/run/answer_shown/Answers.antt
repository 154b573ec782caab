use Rattle.rinqebo_run.proofs.run.answer_shown.Goals as goal

pub returns-clause-errors : goal.returns-clause-errors
returns-clause-errors g c quiet = cc
