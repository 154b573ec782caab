use Rattle.std.proofs.Common.{length}
use Rattle.nextest_places.proofs.spans.PositionWalk.{Walked}
use Rattle.nextest_places.proofs.spans.offsets.offsets_of.Given as goal

abbrev pub invariant-pieces : goal.invariant-pieces
invariant-pieces l = Walked l.token l.offsets.items l.rest

abbrev pub decreases-pieces : goal.decreases-pieces
decreases-pieces l = length l.rest
