use Rattle.platform_language.proofs.Orders.{all_is_least}
use Rattle.platform_language.proofs.laws.law_least.Goals as goal

pub returns : goal.returns
returns c = all_is_least
