use Rattle.std.proofs.Common.{length}
use Rattle.nextest_places.proofs.spans.Walk.{Walked}
use Rattle.nextest_places.proofs.spans.scan.tokens_of.Given as goal

abbrev pub invariant-tokens : goal.invariant-tokens
invariant-tokens l = Walked l.text l.tokens.items l.rest

abbrev pub decreases-tokens : goal.decreases-tokens
decreases-tokens l = length l.rest
