use Rattle.platform_language.proofs.Orders.{any_is_greatest}
use Rattle.platform_language.proofs.laws.law_greatest.Goals as goal

pub returns : goal.returns
returns c = any_is_greatest
