use Rattle.cov_history.proofs.Orders.{order-takes}
use Rattle.cov_history.proofs.kept_laws.order_takes_insert.Goals as goal

pub returns : goal.returns
returns c = order-takes
