use Rattle.cov_history.proofs.Opened.{open-declared}
use Rattle.cov_history.proofs.laws.open_options_are_declared.Goals as goal

pub returns : goal.returns
returns c = open-declared
