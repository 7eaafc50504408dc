use Rattle.cov_history.proofs.RowsRising.{replay-once}
use Rattle.cov_history.proofs.laws.rows_are_once.Goals as goal

pub returns : goal.returns
returns c = replay-once
