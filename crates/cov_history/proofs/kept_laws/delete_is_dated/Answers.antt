use Rattle.cov_history.proofs.Deletes.{delete-dated}
use Rattle.cov_history.proofs.kept_laws.delete_is_dated.Goals as goal

pub returns : goal.returns
returns c = delete-dated
