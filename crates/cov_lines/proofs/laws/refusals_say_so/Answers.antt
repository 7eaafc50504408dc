use Rattle.cov_lines.proofs.Refusals.{say-so}
use Rattle.cov_lines.proofs.laws.refusals_say_so.Goals as goal

pub returns : goal.returns
returns c = say-so
