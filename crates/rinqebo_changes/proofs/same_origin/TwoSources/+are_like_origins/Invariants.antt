use Rattle.std.proofs.Common.{length}
use Rattle.rinqebo_changes.proofs.same_origin.TwoSources.+are_like_origins.Given as goal

abbrev pub decreases-are_like_origins : goal.decreases-are_like_origins
decreases-are_like_origins l = length l.a.now
