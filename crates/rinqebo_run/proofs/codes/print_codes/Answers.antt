use Rattle.std.proofs.Common.{refl}
use Rattle.rinqebo_results.proofs.Errors.{memory_lost, memory_told, or_memory, unchanged}
use Rattle.rinqebo_run.proofs.codes.print_codes.Goals as goal

pub returns-in-Ok-clause-errors : goal.returns-in-Ok-clause-errors
returns-in-Ok-clause-errors g c = or_memory (unchanged 0 _ _ _ refl c.print_text.ensures.status)

pub returns-in-Err-clause-errors : goal.returns-in-Err-clause-errors
returns-in-Err-clause-errors g c =
    memory_lost (memory_told _ _ _ c.refuse_for_memory.ensures.status c.refuse_for_memory.ensures.message)
