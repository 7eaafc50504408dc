use Rattle.cov_history.proofs.RowsRising.{replay-in_order}
use Rattle.cov_history.proofs.laws.rows_are_in_order.Goals as goal

pub returns : goal.returns
returns c = replay-in_order
