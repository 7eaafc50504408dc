use Rattle.cov_history.proofs.Whole.{holding-whole}
use Rattle.cov_history.proofs.kept_laws.holding_is_whole.Goals as goal

pub returns : goal.returns
returns c = holding-whole
