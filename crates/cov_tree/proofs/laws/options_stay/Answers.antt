use Rattle.cov_tree.proofs.Carried.{options_stay}
use Rattle.cov_tree.proofs.laws.options_stay.Goals as goal

pub returns : goal.returns
returns c = options_stay
