use Rattle.cov_history.proofs.LineFiles.{accepted-names}
use Rattle.cov_history.proofs.kept_laws.accepted_names_files.Goals as goal

pub returns : goal.returns
returns c = accepted-names
