use Rattle.nextest_explain.proofs.engines.PartsOfTexts.{stripped}
use Rattle.nextest_explain.proofs.engines.texts.after.Goals as goal

pub returns : goal.returns
returns c = stripped _ _ _ c.strip_prefix.ensures.cases
