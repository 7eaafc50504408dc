use Rattle.cov_hist.proofs.Numbered.{origins-stay}
use Rattle.cov_hist.proofs.laws.origins_stay.Goals as goal

pub returns : goal.returns
returns c = origins-stay
