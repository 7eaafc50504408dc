use Rattle.cov_history.proofs.Unread.{replay-unread}
use Rattle.cov_history.proofs.laws.legal_is_unread.Goals as goal

pub returns : goal.returns
returns c = replay-unread
