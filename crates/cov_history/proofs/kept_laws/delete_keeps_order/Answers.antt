use Rattle.cov_history.proofs.Deletes.{delete-order}
use Rattle.cov_history.proofs.kept_laws.delete_keeps_order.Goals as goal

pub returns : goal.returns
returns c = delete-order
