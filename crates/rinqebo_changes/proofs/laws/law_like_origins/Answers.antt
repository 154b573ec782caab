use Rattle.rinqebo_changes.proofs.LikeSources.{origins_like}
use Rattle.rinqebo_changes.proofs.laws.law_like_origins.Goals as goal

pub returns : goal.returns
returns c = origins_like c.args.sources.now.from.now c.args.sources.now.to.now c.args.a.now c.args.b.now
