use Rattle.cov_replica.proofs.Damages.{no_store_is_taken}
use Rattle.cov_replica.proofs.laws.no_store_is_taken.Goals as goal

pub returns : goal.returns
returns c = no_store_is_taken
