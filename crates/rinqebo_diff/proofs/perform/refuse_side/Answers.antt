use Rattle.std.proofs.Common.{arith}
use Rattle.rinqebo_diff.proofs.Errors.{side_told}
use Rattle.rinqebo_diff.proofs.perform.refuse_side.Goals as goal

pub returns-clause-errors : goal.returns-clause-errors
returns-clause-errors g c =
    side_told c.args.name c.args.failure.now c.args.side.now.request _ c.print_text-written.result _ _ _ _ (omega arith)
    c.side_note.ensures c.print_text-written.ensures.written c.refuse_in.ensures.errors
