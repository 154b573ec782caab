use Rattle.std.proofs.Common.{◌≡◌, ◌-◌, length}
use Rattle.nextest_places.specs.Spans.Positions.{IsPlace, position_of}
use Rattle.nextest_places.proofs.spans.position.end_from.Given as goal

abbrev pub invariant-places : goal.invariant-places
invariant-places l = IsPlace l.text l.byte × (l.at ≡ position_of l.unit l.text l.byte)

abbrev pub decreases-places : goal.decreases-places
decreases-places l = length l.text - l.byte
