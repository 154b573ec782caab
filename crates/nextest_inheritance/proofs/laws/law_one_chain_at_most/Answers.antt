use Rattle.nextest_inheritance.proofs.Chains.{lead_default_one, lead_default_distinct}
use Rattle.nextest_inheritance.proofs.laws.law_one_chain_at_most.Goals as goal

pub returns-clause-one : goal.returns-clause-one
returns-clause-one c parents name chain other one is = lead_default_one parents name other chain is.leads one.leads

pub returns-clause-distinct : goal.returns-clause-distinct
returns-clause-distinct c parents name names leads = lead_default_distinct parents name names leads
