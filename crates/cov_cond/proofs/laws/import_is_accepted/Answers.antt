use Rattle.cov_cond.proofs.Importable.{import-legal}
use Rattle.cov_cond.proofs.laws.import_is_accepted.Goals as goal

pub returns : goal.returns
returns c = import-legal
