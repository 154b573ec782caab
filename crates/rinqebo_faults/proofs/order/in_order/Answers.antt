use Rattle.std.proofs.Common.{rules}
use Rattle.std.proofs.lemmas.Fn.{always_returns_same}
use Rattle.rinqebo_faults.specs.Order.{spot_of}
use Rattle.rinqebo_faults.proofs.order.in_order.Goals as goal

pub returns-clause-sorted : goal.returns-clause-sorted
returns-clause-sorted c =
    c.in_ok-sort_by_key.ensures.sorted spot_of (always_returns_same _ _ _ (λ a r q k. search rules))
