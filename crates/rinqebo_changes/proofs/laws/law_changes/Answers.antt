use Rattle.rinqebo_changes.proofs.LikeSources.{change_decides}
use Rattle.rinqebo_changes.proofs.laws.law_changes.Goals as goal

pub returns : goal.returns
returns c left right =
    let compare = c.args.compare.now in
    change_decides compare.sources.from.now compare.sources.to.now compare.with_origins left right
