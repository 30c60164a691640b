use Rattle.rules.proofs.Order.{order_law}
use Rattle.rules.proofs.batch_keeps_order.Goals as goal

pub returns : goal.returns
returns c = order_law
