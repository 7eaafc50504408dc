use Rattle.cov_history.proofs.RowChanges.{rows-kept}
use Rattle.cov_history.proofs.laws.lines_keep_rows.Goals as goal

pub returns : goal.returns
returns c = rows-kept
