use Rattle.cov_lines.proofs.Beginning.{begin-now}
use Rattle.cov_lines.proofs.laws.sessions_begin_now.Goals as goal

pub returns : goal.returns
returns c = begin-now
