use Rattle.nextest_explain.proofs.engines.FilterTexts.{cut}
use Rattle.nextest_explain.proofs.engines.parse.cut.Goals as goal

pub returns-clause-parts : goal.returns-clause-parts
returns-clause-parts c = cut _ _ c.split_once.ensures.cases
