use Rattle.nextest_explain.proofs.engines.PartsOfTexts.{contains_is}
use Rattle.nextest_explain.proofs.engines.texts.contains.Goals as goal

pub returns : goal.returns
returns c = contains_is _ _ _ c.contains.ensures.cases
