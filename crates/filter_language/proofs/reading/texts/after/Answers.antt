use Rattle.filter_language.proofs.PartsOfTexts.{stripped}
use Rattle.filter_language.proofs.reading.texts.after.Goals as goal

pub returns-clause-value : goal.returns-clause-value
returns-clause-value c = stripped _ _ _ c.strip_prefix.ensures.cases
