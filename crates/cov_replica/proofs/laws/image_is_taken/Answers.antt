use Rattle.cov_replica.proofs.Taking.{image_is_taken}
use Rattle.cov_replica.proofs.laws.image_is_taken.Goals as goal

pub returns : goal.returns
returns c = image_is_taken
