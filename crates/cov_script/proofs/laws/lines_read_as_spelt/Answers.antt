use Rattle.cov_script.proofs.Spelling.{reads_as_spelt}
use Rattle.cov_script.proofs.Unspelling.{spelt_as_read}
use Rattle.cov_script.proofs.laws.lines_read_as_spelt.Goals as goal

pub returns : goal.returns
returns c = λ line f. (reads_as_spelt line f, spelt_as_read line f)
