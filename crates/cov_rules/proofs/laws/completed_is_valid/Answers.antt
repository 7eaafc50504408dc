use Rattle.cov_rules.proofs.Answering.{completed_is_valid}
use Rattle.cov_rules.proofs.laws.completed_is_valid.Goals as goal

pub returns : goal.returns
returns c = completed_is_valid
