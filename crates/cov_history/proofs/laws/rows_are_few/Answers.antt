use Rattle.cov_history.proofs.RowsRising.{replay-few}
use Rattle.cov_history.proofs.laws.rows_are_few.Goals as goal

pub returns : goal.returns
returns c = replay-few
