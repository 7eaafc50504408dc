use Rattle.cov_rules.proofs.Holding.{holds_later}
use Rattle.cov_rules.proofs.laws.rules_hold_in_grown_table.Goals as goal

pub returns : goal.returns
returns c ts us s x h = holds_later x h
