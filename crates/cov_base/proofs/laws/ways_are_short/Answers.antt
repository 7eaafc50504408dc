use Rattle.cov_base.proofs.Reaching.{ways_are_short}
use Rattle.cov_base.proofs.laws.ways_are_short.Goals as goal

pub returns : goal.returns
returns c = ways_are_short
