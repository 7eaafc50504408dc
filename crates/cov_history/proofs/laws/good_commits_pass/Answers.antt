use Rattle.cov_history.proofs.Sessions.{good-passes}
use Rattle.cov_history.proofs.laws.good_commits_pass.Goals as goal

pub returns : goal.returns
returns c = good-passes
