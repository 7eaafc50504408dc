use Rattle.cov_history.proofs.Inserts.{insert-number}
use Rattle.cov_history.proofs.kept_laws.insert_is_numbered.Goals as goal

pub returns : goal.returns
returns c = insert-number
