use Rattle.std.proofs.Common.{inr, refl}
use Rattle.rinqebo_faults.specs.Edits.{edits_view}
use Rattle.rinqebo_checks.proofs.search.Search.refused.Goals as goal

pub returns : goal.returns
unfolding edits_view
returns c = inr (c.args.self.now.reading.edits.left_out, refl, c.in_ok-refused.ensures)
