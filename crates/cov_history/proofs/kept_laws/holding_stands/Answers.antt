use Rattle.cov_history.proofs.Standing.{holding-stands}
use Rattle.cov_history.proofs.kept_laws.holding_stands.Goals as goal

pub returns : goal.returns
returns c = holding-stands
