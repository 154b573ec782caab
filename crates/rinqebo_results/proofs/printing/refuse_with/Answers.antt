use Rattle.std.proofs.Common.{◌∙◌}
use Rattle.rinqebo_results.proofs.Errors.{memory_lost, memory_told, or_memory, written}
use Rattle.rinqebo_results.proofs.printing.refuse_with.Goals as goal

pub returns-in-Ok-clause-errors : goal.returns-in-Ok-clause-errors
returns-in-Ok-clause-errors g c =
    or_memory (written c.args.status _ _ _ _ _ (c.as_str.ensures.value ∙ c.in-Ok.ensures) c.print_text.ensures.status
    c.print_text.ensures.written)

pub returns-in-Err-clause-errors : goal.returns-in-Err-clause-errors
returns-in-Err-clause-errors g c =
    memory_lost (memory_told _ _ _ c.refuse_for_memory.ensures.status c.refuse_for_memory.ensures.message)
