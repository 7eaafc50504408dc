use Rattle.cov_history.proofs.LineFiles.{amid-in_files}
use Rattle.cov_history.proofs.kept_laws.amid_is_in_files.Goals as goal

pub returns : goal.returns
returns c = amid-in_files
