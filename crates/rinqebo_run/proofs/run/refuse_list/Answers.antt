use Rattle.std.proofs.Common.{inl, refl}
use Rattle.rinqebo_results.proofs.Errors.{memory_told}
use Rattle.rinqebo_run.proofs.run.refuse_list.Goals as goal

pub returns-in-Refused-clause-errors : goal.returns-in-Refused-clause-errors
returns-in-Refused-clause-errors g c = rw c.in-Refused.is c.refuse.ensures.errors

pub returns-in-Memory-clause-errors : goal.returns-in-Memory-clause-errors
returns-in-Memory-clause-errors g c =
    rw c.in-Memory.is (memory_told _ _ _ c.refuse_for_memory.ensures.status c.refuse_for_memory.ensures.message)

pub returns-in-Write-clause-errors : goal.returns-in-Write-clause-errors
returns-in-Write-clause-errors g c = inl refl
