use Rattle.std.proofs.Common.{◌<◌}
use Rattle.nextest_places.proofs.expression.breaks_within.Given as goal

abbrev pub invariant-loop-byte : goal.invariant-loop-byte
invariant-loop-byte l = 0 < l.count
