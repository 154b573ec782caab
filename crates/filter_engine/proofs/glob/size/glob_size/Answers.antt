use Rattle.std.proofs.Common.{◌∙◌, ap}
use Rattle.std.specs.List.{fold}
use Rattle.std.proofs.lemmas.List.{take_all}
use Rattle.filter_engine.specs.GlobSizes.{glob_size, with_states}
use Rattle.filter_engine.proofs.glob.size.glob_size.Goals as goal

pub returns : goal.returns
unfolding glob_size
returns c =
    c.loop-i.invariant
    ∙ ap (fold with_states 16) (take_all c.loop-i.i c.args.text.now c.loop-i-test.false)
