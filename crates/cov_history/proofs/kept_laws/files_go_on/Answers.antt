use Rattle.cov_history.proofs.FileNodes.{files-go_on}
use Rattle.cov_history.proofs.kept_laws.files_go_on.Goals as goal

pub returns : goal.returns
returns c = files-go_on
