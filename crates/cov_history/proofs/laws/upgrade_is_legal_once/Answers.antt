use Rattle.cov_history.proofs.Legal.{upgrade-legal}
use Rattle.cov_history.proofs.laws.upgrade_is_legal_once.Goals as goal

pub returns : goal.returns
returns c = upgrade-legal
