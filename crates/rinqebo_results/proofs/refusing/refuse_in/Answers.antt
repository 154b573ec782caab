use Rattle.rinqebo_results.proofs.refusing.refuse_in.Goals as goal

pub returns-in-Text-clause-errors : goal.returns-in-Text-clause-errors
returns-in-Text-clause-errors g c = c.refuse.ensures.errors
