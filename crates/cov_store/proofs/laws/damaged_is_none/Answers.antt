use Rattle.cov_store.proofs.Standing.{damaged_is_none}
use Rattle.cov_store.proofs.laws.damaged_is_none.Goals as goal

pub returns : goal.returns
returns c = damaged_is_none
