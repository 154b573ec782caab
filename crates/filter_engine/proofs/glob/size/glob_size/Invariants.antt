use Rattle.std.proofs.Common.{◌≡◌, take}
use Rattle.std.specs.List.{fold}
use Rattle.filter_engine.specs.GlobSizes.{with_states}
use Rattle.filter_engine.proofs.glob.size.glob_size.Given as goal

abbrev pub invariant-loop-i : goal.invariant-loop-i
invariant-loop-i l = l.states ≡ fold with_states 16 (take l.i l.text)
