use Rattle.cov_file.proofs.Later.{insert_later}
use Rattle.cov_file.proofs.laws.insert_is_later.Goals as goal

pub returns : goal.returns
returns c = insert_later
