use Rattle.cov_store.proofs.Standing.{one_history}
use Rattle.cov_store.proofs.laws.one_history.Goals as goal

pub returns : goal.returns
returns c = one_history
