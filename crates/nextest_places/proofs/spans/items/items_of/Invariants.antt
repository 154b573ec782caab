use Rattle.std.proofs.Common.{length}
use Rattle.nextest_places.proofs.spans.Turned.{Reads}
use Rattle.nextest_places.proofs.spans.items.items_of.Given as goal

abbrev pub invariant-tokens : goal.invariant-tokens
invariant-tokens l = Reads l.text l.items.items l.rest l.reader l.state.nest.items

abbrev pub decreases-tokens : goal.decreases-tokens
decreases-tokens l = length l.rest
