use Rattle.rinqebo_changes.specs.Changes.{is_change}
use Rattle.rinqebo_changes.proofs.Exactly.{exactly}
use Rattle.rinqebo_changes.proofs.laws.law_exactly.Goals as goal

pub returns : goal.returns
returns c from to =
    let compare = c.args.compare.now in
    exactly (is_change compare.sources.from.now compare.sources.to.now compare.with_origins) from to
