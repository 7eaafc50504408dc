use Rattle.cov_tree.proofs.Carried.{once_stays}
use Rattle.cov_tree.proofs.laws.once_stays.Goals as goal

pub returns : goal.returns
returns c = once_stays
