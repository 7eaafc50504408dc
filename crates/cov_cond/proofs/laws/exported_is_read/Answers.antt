use Rattle.cov_cond.proofs.Short.{exported-read}
use Rattle.cov_cond.proofs.laws.exported_is_read.Goals as goal

pub returns : goal.returns
returns c = exported-read c.export_gives_text.ensures
