use Rattle.cov_history.proofs.Appends.{commit-lines}
use Rattle.cov_history.proofs.kept_laws.commit_keeps_lines.Goals as goal

pub returns : goal.returns
returns c = commit-lines
