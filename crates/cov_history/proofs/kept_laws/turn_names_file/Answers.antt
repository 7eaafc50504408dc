use Rattle.cov_history.proofs.LineFiles.{turn-names}
use Rattle.cov_history.proofs.kept_laws.turn_names_file.Goals as goal

pub returns : goal.returns
returns c = turn-names
