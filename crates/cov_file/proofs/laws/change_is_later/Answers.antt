use Rattle.cov_file.proofs.Later.{change_later}
use Rattle.cov_file.proofs.laws.change_is_later.Goals as goal

pub returns : goal.returns
returns c = change_later
