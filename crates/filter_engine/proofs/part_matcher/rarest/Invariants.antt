use Rattle.std.proofs.Common.{◌<◌, length}
use Rattle.filter_engine.proofs.part_matcher.rarest.Given as goal

abbrev pub invariant-loop-i : goal.invariant-loop-i
invariant-loop-i l = 0 < length l.text → l.best < length l.text
