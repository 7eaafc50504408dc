use Rattle.cov_rules.proofs.Growing.{stay_below}
use Rattle.cov_rules.proofs.laws.rules_stay_below.Goals as goal

pub returns : goal.returns
returns c = stay_below
