use Rattle.nextest_places.proofs.OneOrder.{one_order}
use Rattle.nextest_places.proofs.law.law_one_order.Goals as goal

pub returns : goal.returns
returns c = one_order
