use Rattle.cov_history.proofs.Inserts.{insert-elsewhere}
use Rattle.cov_history.proofs.kept_laws.insert_in_one_file.Goals as goal

pub returns : goal.returns
returns c = insert-elsewhere
