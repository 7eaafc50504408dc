use Rattle.cov_replica.proofs.Taking.{fault_stays}
use Rattle.cov_replica.proofs.laws.fault_stays.Goals as goal

pub returns : goal.returns
returns c = fault_stays
