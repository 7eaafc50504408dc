use Rattle.cov_replica.proofs.Damages.{damage_is_taken}
use Rattle.cov_replica.proofs.laws.damage_is_taken.Goals as goal

pub returns : goal.returns
returns c = damage_is_taken
