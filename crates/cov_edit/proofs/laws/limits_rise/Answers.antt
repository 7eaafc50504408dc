use Rattle.cov_edit.proofs.Limits.{limits-rise}
use Rattle.cov_edit.proofs.laws.limits_rise.Goals as goal

pub returns : goal.returns
returns c = limits-rise
