use Rattle.cov_cond.proofs.Made.{import-makes}
use Rattle.cov_cond.proofs.laws.import_makes_file.Goals as goal

pub returns : goal.returns
returns c = import-makes
