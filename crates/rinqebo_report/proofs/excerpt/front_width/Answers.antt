-- The characters that were gone through are the first ones of the text.
use Rattle.std.proofs.Common.{[], string_bytes, ap, ◌∙◌}
use Rattle.std.proofs.lemmas.Iterator.{YieldsList-from_chars, YieldsList-from_take}
use Rattle.std.proofs.lemmas.Iterator.Consumers.{YieldsList-end}
use Rattle.rinqebo_report.proofs.WholeTexts.{written_whole}
use Rattle.rinqebo_report.specs.Excerpts.{line_char}
use Rattle.rinqebo_report.specs.Layout.{width}
use Rattle.rinqebo_report.proofs.excerpt.front_width.Goals as goal

pub returns : goal.returns
returns c =
    let whole = YieldsList-end
    (YieldsList-from_take c.args.count (YieldsList-from_chars c.args.text.now c.utf8.text cc) cc)
    c.loop-c.yielded _ c.loop-c.yielded_by _ _ c.in-None.is c.next.ensures.steps in
    let written = written_whole line_char [] (string_bytes c.loop-c.front) c.loop-c.yielded _ whole.0
    c.loop-c.invariant in
    c.width.ensures ∙ ap width (c.as_str.ensures.value ∙ written)
