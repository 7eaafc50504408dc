use Rattle.cov_replica.proofs.Faults.{never_want}
use Rattle.cov_replica.proofs.laws.never_want.Goals as goal

pub returns : goal.returns
returns c = never_want
