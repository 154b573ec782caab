use Rattle.rinqebo_changes.proofs.Fair.{fair}
use Rattle.rinqebo_changes.proofs.laws.law_swapped.Goals as goal

pub returns : goal.returns
returns c =
    let compare = c.args.compare.now in
    fair compare.sources.from.now compare.sources.to.now compare.with_origins
