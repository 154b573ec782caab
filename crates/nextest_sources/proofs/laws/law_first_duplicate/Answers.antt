use Rattle.nextest_sources.proofs.Duplicates.{first_duplicate, duplicate_is, duplicates_from, duplicates_to}
use Rattle.nextest_sources.proofs.laws.law_first_duplicate.Goals as goal

pub returns-clause-some : goal.returns-clause-some
returns-clause-some c tools fault = (first_duplicate tools fault, duplicate_is tools fault)

pub returns-clause-none : goal.returns-clause-none
returns-clause-none c tools = (duplicates_from tools, duplicates_to tools)
