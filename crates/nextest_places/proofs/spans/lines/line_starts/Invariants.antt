use Rattle.std.proofs.Common.{◌-◌, length}
use Rattle.nextest_places.proofs.spans.Lined.{Lined}
use Rattle.nextest_places.proofs.spans.lines.line_starts.Given as goal

abbrev pub invariant-places : goal.invariant-places
invariant-places l = Lined l.text l.byte l.at l.starts.items

abbrev pub decreases-places : goal.decreases-places
decreases-places l = length l.text - l.byte
