use Rattle.std.proofs.Common.{◌∙◌, subst}
use Rattle.rinqebo_resolve.specs.Pieces.{IsPieceOf}
use Rattle.rinqebo_resolve.proofs.Reading.{piece}
use Rattle.rinqebo_resolve.proofs.run.Run.copy_piece.Goals as goal

pub returns : goal.returns
returns c =
    subst (λ text. IsPieceOf text c.args.offset c.args.out.now c.copy_from.new.out c.copy_from.result)
    (c.as_bytes.ensures.value ∙ c.text.ensures)
    (piece c.as_bytes.result.now c.args.offset c.args.out.now c.copy_from.new.out c.copy_from.result
    c.copy_from.ensures.count c.copy_from.ensures.written)
