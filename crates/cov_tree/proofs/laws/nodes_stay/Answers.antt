use Rattle.cov_tree.proofs.Carried.{nodes_stay}
use Rattle.cov_tree.proofs.laws.nodes_stay.Goals as goal

pub returns : goal.returns
returns c = nodes_stay
