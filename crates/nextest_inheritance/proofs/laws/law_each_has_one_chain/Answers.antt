use Rattle.nextest_inheritance.proofs.Naming.{one_chain_each}
use Rattle.nextest_inheritance.proofs.laws.law_each_has_one_chain.Goals as goal

pub returns : goal.returns
returns c written known only sound = one_chain_each written known only sound
