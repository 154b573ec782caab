use Rattle.nextest_places.proofs.spans.Climbing.{Climbs}
use Rattle.nextest_places.proofs.spans.path.leads_to.Given as goal

abbrev pub invariant-up : goal.invariant-up
invariant-up l = Climbs l.items l.fn.parent l.path l.base l.left
