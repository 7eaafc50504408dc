use Rattle.cov_replica.proofs.Taking.{history_stays}
use Rattle.cov_replica.proofs.laws.history_stays.Goals as goal

pub returns : goal.returns
returns c = history_stays
