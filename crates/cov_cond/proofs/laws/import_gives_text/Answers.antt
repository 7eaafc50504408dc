use Rattle.cov_cond.proofs.Imported.{import-gives}
use Rattle.cov_cond.proofs.laws.import_gives_text.Goals as goal

pub returns : goal.returns
returns c = import-gives
