use Rattle.rinqebo_results.proofs.Errors.{message_lost, message_told}
use Rattle.rinqebo_results.proofs.printing.refuse_message.Goals as goal

pub returns-in-Ok-clause-errors : goal.returns-in-Ok-clause-errors
returns-in-Ok-clause-errors g c =
    message_told c.args.status _ _ _ c.args.message _ _ c.in-Ok.is c.as_str.ensures.value c.print_text.ensures.status
    c.print_text.ensures.written

pub returns-in-Err-clause-errors : goal.returns-in-Err-clause-errors
returns-in-Err-clause-errors g c =
    message_lost c.args.status _ _ _ c.args.message _ c.in-Err.is c.refuse_for_memory.ensures.status
    c.refuse_for_memory.ensures.message
