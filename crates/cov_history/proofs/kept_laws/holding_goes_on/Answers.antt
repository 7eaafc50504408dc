use Rattle.cov_history.proofs.Appends.{holding-goes_on}
use Rattle.cov_history.proofs.kept_laws.holding_goes_on.Goals as goal

pub returns : goal.returns
returns c = holding-goes_on
