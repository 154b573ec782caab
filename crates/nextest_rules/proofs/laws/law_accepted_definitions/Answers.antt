use Rattle.nextest_rules.proofs.AcceptedDefinitions.{accepted_definitions}
use Rattle.nextest_rules.proofs.laws.law_accepted_definitions.Goals as goal

pub returns : goal.returns
returns c features source file = accepted_definitions features source file
