use Rattle.cov_replica.proofs.Faults.{refusal_is_of_verdict}
use Rattle.cov_replica.proofs.laws.refusal_is_of_verdict.Goals as goal

pub returns : goal.returns
returns c = refusal_is_of_verdict
