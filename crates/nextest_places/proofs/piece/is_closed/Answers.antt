use Rattle.std.proofs.Common.{◌∙◌, sym}
use Rattle.nextest_places.proofs.Walking.{closed_by}
use Rattle.nextest_places.proofs.piece.is_closed.Goals as goal

pub returns : goal.returns
returns c =
    closed_by c.args.text.now c.args.behind.now c.byte_at.result c.byte_at.ensures
    (sym c.is_empty-2.ensures ∙ c.if-is_empty.false)
