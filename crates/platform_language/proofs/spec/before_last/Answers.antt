use Rattle.platform_language.proofs.Suffixes.{stripped}
use Rattle.platform_language.proofs.spec.before_last.Goals as goal

pub returns : goal.returns
returns c = stripped _ _ c.strip_suffix.ensures.cases
