use Rattle.cov_history.proofs.FileNodes.{files-rise}
use Rattle.cov_history.proofs.kept_laws.files_rise.Goals as goal

pub returns : goal.returns
returns c = files-rise
