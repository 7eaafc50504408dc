use Rattle.cov_history.proofs.Orders.{no_commit-holds}
use Rattle.cov_history.proofs.kept_laws.declarations_hold_nothing.Goals as goal

pub returns : goal.returns
returns c = no_commit-holds
