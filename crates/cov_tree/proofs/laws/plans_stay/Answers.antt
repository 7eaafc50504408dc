use Rattle.cov_tree.proofs.Plans.{plans_grow}
use Rattle.cov_tree.proofs.laws.plans_stay.Goals as goal

pub returns : goal.returns
returns c = plans_grow
