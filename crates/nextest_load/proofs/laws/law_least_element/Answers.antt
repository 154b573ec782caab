use Rattle.nextest_load.proofs.LeastFaults.{refuses_least}
use Rattle.nextest_load.proofs.SortedTrees.{own_sorted, whole_sorted}
use Rattle.nextest_load.specs.Trees.{own_tree, merged_tree}
use Rattle.nextest_load.proofs.laws.law_least_element.Goals as goal

pub returns-clause-own : goal.returns-clause-own
returns-clause-own c s = refuses_least (own_tree s) (own_sorted s)

pub returns-clause-merged : goal.returns-clause-merged
returns-clause-merged c ss = refuses_least (merged_tree ss) (whole_sorted ss)
