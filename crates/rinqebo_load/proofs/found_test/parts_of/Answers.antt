use Rattle.rinqebo_load.proofs.Ids.{id_parts}
use Rattle.rinqebo_load.proofs.found_test.parts_of.Goals as goal

pub returns : goal.returns
returns c = id_parts c.args.id.now c.split_once.result c.split_once.ensures.cases
