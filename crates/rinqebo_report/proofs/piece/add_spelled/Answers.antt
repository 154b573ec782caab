-- The characters that were gone through are all of the text.
use Rattle.std.proofs.lemmas.Iterator.{YieldsList-from_chars}
use Rattle.std.proofs.lemmas.Iterator.Consumers.{YieldsList-end}
use Rattle.rinqebo_report.proofs.WholeTexts.{written_whole}
use Rattle.rinqebo_report.specs.Pieces.{shown_char}
use Rattle.rinqebo_report.proofs.piece.add_spelled.Goals as goal

pub returns : goal.returns
returns c =
    let whole = YieldsList-end (YieldsList-from_chars c.args.text.now c.utf8.text cc) c.loop-c.yielded _
    c.loop-c.yielded_by _ _ c.in-None.is c.next.ensures.steps in
    written_whole shown_char _ _ c.loop-c.yielded _ whole.0 c.loop-c.invariant
