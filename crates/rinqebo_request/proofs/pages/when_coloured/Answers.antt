use Rattle.rinqebo_request.proofs.Choosing.{chosen}
use Rattle.rinqebo_request.proofs.pages.when_coloured.Goals as goal

pub returns : goal.returns
returns c =
    chosen c.value.result c.set.result c.or.result _ c.unwrap_or.result _ _ c.or.ensures c.unwrap_or.ensures
    c.value.ensures c.set.ensures
