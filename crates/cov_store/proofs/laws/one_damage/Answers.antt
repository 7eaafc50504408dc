use Rattle.cov_store.proofs.Standing.{one_damage}
use Rattle.cov_store.proofs.laws.one_damage.Goals as goal

pub returns : goal.returns
returns c = one_damage
