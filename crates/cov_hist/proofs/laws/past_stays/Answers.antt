use Rattle.cov_hist.proofs.Staying.{past-stays}
use Rattle.cov_hist.proofs.laws.past_stays.Goals as goal

pub returns : goal.returns
returns c = past-stays
