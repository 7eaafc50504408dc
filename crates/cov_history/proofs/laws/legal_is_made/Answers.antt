use Rattle.cov_history.proofs.Naming.{legal-named}
use Rattle.cov_history.proofs.laws.legal_is_made.Goals as goal

pub returns : goal.returns
returns c = legal-named
