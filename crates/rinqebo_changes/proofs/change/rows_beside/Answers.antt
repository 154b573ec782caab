use Rattle.std.proofs.Common.{rules, tests}
use Rattle.std.proofs.lemmas.Iterator.{YieldsList-from_map, YieldsList-from_zip, items_from_collect}
use Rattle.std.proofs.lemmas.Iterator.Adapters.{YieldsList-from_vec}
use Rattle.std.proofs.lemmas.Iterator.Consumers.{YieldsList-from_enumerate}
use Rattle.rinqebo_changes.specs.Changes.{change_of}
use Rattle.rinqebo_changes.proofs.change.rows_beside.Goals as goal

pub returns : goal.returns
returns c =
    items_from_collect _ c.collect.ensures.ran
    (YieldsList-from_map _ change_of
    (YieldsList-from_enumerate
    (YieldsList-from_zip (YieldsList-from_vec c.args.from.items (cc) (cc)) (YieldsList-from_vec c.args.to.items (cc) (cc))) (cc))
    c.map.ensures.closure (λ x r q k. search (rules, tests)))
