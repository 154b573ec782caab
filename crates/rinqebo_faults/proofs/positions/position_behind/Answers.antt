-- The characters that were gone through are all of the text.
use Rattle.std.proofs.Common.{◌∙◌, ap, sym}
use Rattle.std.proofs.lemmas.List.{map-id}
use Rattle.std.specs.Prelude.{fold}
use Rattle.std.proofs.lemmas.Iterator.{YieldsList-from_chars}
use Rattle.std.proofs.lemmas.Iterator.Consumers.{YieldsList-end}
use Rattle.rinqebo_faults.specs.Positions.{behind_char, position_behind}
use Rattle.rinqebo_faults.proofs.positions.position_behind.Goals as goal

pub returns : goal.returns
unfolding position_behind
returns c =
    let whole = YieldsList-end (YieldsList-from_chars c.args.text.now c.utf8.text cc) c.loop-c.yielded _
    c.loop-c.yielded_by _ _ c.in-None.is c.next.ensures.steps in
    c.loop-c.invariant ∙ ap (fold behind_char c.args.start) (sym (map-id c.loop-c.yielded) ∙ whole.0)
