use Rattle.platform_language.proofs.Orders.{order_is_free}
use Rattle.platform_language.proofs.laws.law_order.Goals as goal

pub returns : goal.returns
returns c = order_is_free
