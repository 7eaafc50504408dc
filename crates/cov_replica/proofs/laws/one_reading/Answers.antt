use Rattle.cov_replica.proofs.Spelling.{one_reading}
use Rattle.cov_replica.proofs.laws.one_reading.Goals as goal

pub returns : goal.returns
returns c = one_reading
