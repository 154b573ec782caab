use Rattle.std.proofs.Common.{◌≡◌, ◌++◌, drop}
use Rattle.nextest_places.specs.Lines.{line_ends}
use Rattle.nextest_places.proofs.fronts.ends_of.Given as goal

abbrev pub invariant-loop-i : goal.invariant-loop-i
invariant-loop-i l = l.ends.items ++ line_ends l.i (drop l.i l.text) ≡ line_ends 0 l.text
