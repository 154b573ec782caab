use Rattle.nextest_load.proofs.LeastFaults.{refuses_cycles}
use Rattle.nextest_load.proofs.SortedTrees.{own_sorted, whole_sorted}
use Rattle.nextest_load.specs.Steps.{no_profiles}
use Rattle.nextest_load.specs.Trees.{own_tree, merged_tree}
use Rattle.nextest_load.proofs.laws.law_cycles.Goals as goal

pub returns-clause-own : goal.returns-clause-own
returns-clause-own c lower s = refuses_cycles lower (own_tree s) (own_sorted s)

pub returns-clause-merged : goal.returns-clause-merged
returns-clause-merged c ss = refuses_cycles no_profiles (merged_tree ss) (whole_sorted ss)
