use Rattle.cov_history.proofs.Deletes.{lines-amid}
use Rattle.cov_history.proofs.kept_laws.lines_are_distinct.Goals as goal

pub returns : goal.returns
returns c = lines-amid
