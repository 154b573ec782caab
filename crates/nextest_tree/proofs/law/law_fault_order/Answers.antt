use Rattle.nextest_tree.proofs.Places.{ordered_faults}
use Rattle.nextest_tree.proofs.law.law_fault_order.Goals as goal

pub returns : goal.returns
returns g c = ordered_faults g.T.Element.schema
