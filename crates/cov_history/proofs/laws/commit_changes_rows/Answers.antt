use Rattle.cov_history.proofs.RowChanges.{rows-committed}
use Rattle.cov_history.proofs.laws.commit_changes_rows.Goals as goal

pub returns : goal.returns
returns c = rows-committed
