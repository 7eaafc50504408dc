use Rattle.cov_history.proofs.Appends.{commit-rows}
use Rattle.cov_history.proofs.kept_laws.commit_keeps_rows.Goals as goal

pub returns : goal.returns
returns c = commit-rows
