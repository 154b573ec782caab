use Rattle.std.proofs.Common.{◌∙◌, ap}
use Rattle.std.specs.List.{fold}
use Rattle.std.proofs.lemmas.List.{take_all}
use Rattle.filter_engine.specs.RegexSizes.{regex_size, start, with_byte, whole_of}
use Rattle.filter_engine.proofs.regex_size.regex_size.Goals as goal

pub returns : goal.returns
unfolding regex_size
returns c =
    c.whole.ensures
    ∙ ap whole_of (c.loop-i.invariant
    ∙ ap (fold with_byte start) (take_all c.loop-i.i c.args.text.now c.loop-i-test.false))
