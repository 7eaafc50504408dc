use Rattle.cov_lines.proofs.Isolated.{isolated}
use Rattle.cov_lines.proofs.laws.sessions_are_isolated.Goals as goal

pub returns : goal.returns
returns c = isolated
