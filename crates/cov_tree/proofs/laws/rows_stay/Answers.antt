use Rattle.cov_tree.proofs.Carried.{rows_stay}
use Rattle.cov_tree.proofs.laws.rows_stay.Goals as goal

pub returns : goal.returns
returns c = rows_stay
