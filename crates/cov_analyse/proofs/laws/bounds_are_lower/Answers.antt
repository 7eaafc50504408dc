use Rattle.cov_analyse.proofs.Lower.{bounds_are_lower}
use Rattle.cov_analyse.proofs.laws.bounds_are_lower.Goals as goal

pub returns : goal.returns
returns c = bounds_are_lower
