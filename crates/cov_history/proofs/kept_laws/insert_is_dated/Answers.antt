use Rattle.cov_history.proofs.Orders.{insert-dated}
use Rattle.cov_history.proofs.kept_laws.insert_is_dated.Goals as goal

pub returns : goal.returns
returns c = insert-dated
