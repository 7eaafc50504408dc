use Rattle.cov_history.proofs.Reaching.{legal-reached}
use Rattle.cov_history.proofs.kept_laws.legal_is_in_reach.Goals as goal

pub returns : goal.returns
returns c = legal-reached
