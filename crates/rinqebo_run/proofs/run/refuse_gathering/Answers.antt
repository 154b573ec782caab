use Rattle.rinqebo_results.proofs.Errors.{fault_told, memory_lost, memory_told}
use Rattle.rinqebo_run.proofs.run.refuse_gathering.Goals as goal

pub returns-in-Memory-clause-errors : goal.returns-in-Memory-clause-errors
returns-in-Memory-clause-errors g c =
    memory_lost (memory_told _ _ _ c.refuse_for_memory.ensures.status c.refuse_for_memory.ensures.message)

pub returns-in_default-clause-errors : goal.returns-in_default-clause-errors
returns-in_default-clause-errors g c =
    fault_told _ _ _ c.gathering_message-message.result c.gathering_message-message.ensures
    c.refuse_message.ensures.errors
