use Rattle.platform_language.proofs.Orders.{opposites}
use Rattle.platform_language.proofs.laws.law_opposites.Goals as goal

pub returns : goal.returns
returns c = opposites
