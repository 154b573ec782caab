use Rattle.rinqebo_results.proofs.list_text.write_shown.Goals as goal

pub write-requires : goal.write-requires
write-requires g c = c.requires

pub write-written-requires : goal.write-written-requires
write-written-requires g c = c.requires

pub returns-clause-errors : goal.returns-clause-errors
returns-clause-errors g c quiet = cc
