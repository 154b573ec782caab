use Rattle.nextest_load.proofs.SortedTrees.{own_sorted, whole_sorted}
use Rattle.nextest_load.proofs.laws.law_keys_ascend.Goals as goal

pub returns-clause-own : goal.returns-clause-own
returns-clause-own c s = own_sorted s

pub returns-clause-merged : goal.returns-clause-merged
returns-clause-merged c ss = whole_sorted ss
