use Rattle.cov_history.proofs.LineFiles.{legal-in_files}
use Rattle.cov_history.proofs.kept_laws.lines_are_in_files.Goals as goal

pub returns : goal.returns
returns c = legal-in_files
