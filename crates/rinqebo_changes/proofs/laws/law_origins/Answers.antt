use Rattle.rinqebo_changes.proofs.SameOrigins.{origins_decide}
use Rattle.rinqebo_changes.proofs.laws.law_origins.Goals as goal

pub returns : goal.returns
returns c = origins_decide c.args.a.now c.args.b.now
