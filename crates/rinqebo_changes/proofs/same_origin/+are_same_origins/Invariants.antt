use Rattle.std.proofs.Common.{length}
use Rattle.rinqebo_changes.proofs.same_origin.+are_same_origins.Given as goal

abbrev pub decreases-are_same_origins : goal.decreases-are_same_origins
decreases-are_same_origins l = length l.a.now
