use Rattle.nextest_elements.proofs.Owners.{owned_by_tool, owned_by_organisation, owned_by_nobody}
use Rattle.nextest_elements.proofs.laws.law_owner.Goals as goal

pub returns-clause-tool : goal.returns-clause-tool
returns-clause-tool c = owned_by_tool

pub returns-clause-organisation : goal.returns-clause-organisation
returns-clause-organisation c = owned_by_organisation

pub returns-clause-nobody : goal.returns-clause-nobody
returns-clause-nobody c = owned_by_nobody
