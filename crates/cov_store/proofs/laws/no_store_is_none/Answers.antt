use Rattle.cov_store.proofs.Standing.{no_store_is_none}
use Rattle.cov_store.proofs.laws.no_store_is_none.Goals as goal

pub returns : goal.returns
returns c = no_store_is_none
