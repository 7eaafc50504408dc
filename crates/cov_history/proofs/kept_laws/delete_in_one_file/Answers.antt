use Rattle.cov_history.proofs.Deletes.{delete-elsewhere}
use Rattle.cov_history.proofs.kept_laws.delete_in_one_file.Goals as goal

pub returns : goal.returns
returns c = delete-elsewhere
