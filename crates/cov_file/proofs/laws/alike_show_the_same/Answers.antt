use Rattle.cov_file.proofs.Later.{alike_shown}
use Rattle.cov_file.proofs.laws.alike_show_the_same.Goals as goal

pub returns : goal.returns
returns c = alike_shown
