use Rattle.cov_history.proofs.Unread.{commit-unread}
use Rattle.cov_history.proofs.laws.commit_is_unread.Goals as goal

pub returns : goal.returns
returns c = commit-unread
