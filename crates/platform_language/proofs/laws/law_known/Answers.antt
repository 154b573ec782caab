use Rattle.platform_language.proofs.Knowledge.{values_are_known}
use Rattle.platform_language.proofs.laws.law_known.Goals as goal

pub returns : goal.returns
returns c = values_are_known
