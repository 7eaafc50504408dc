use Rattle.cov_history.proofs.FileNodes.{rows-tell}
use Rattle.cov_history.proofs.kept_laws.rows_tell_files.Goals as goal

pub returns : goal.returns
returns c = rows-tell
