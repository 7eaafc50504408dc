use Rattle.cov_history.proofs.BadChoices.{bad-is}
use Rattle.cov_history.proofs.laws.bad_has_fault.Goals as goal

pub returns : goal.returns
returns c = bad-is
