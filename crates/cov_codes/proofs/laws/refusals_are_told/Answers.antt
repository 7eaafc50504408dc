use Rattle.cov_codes.proofs.RefusalCodes.{refusal-code}
use Rattle.cov_codes.proofs.laws.refusals_are_told.Goals as goal

pub returns : goal.returns
returns c history command refusal is = refusal-code history command refusal is
