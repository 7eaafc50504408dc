use Rattle.cov_history.proofs.Sessions.{good-stays}
use Rattle.cov_history.proofs.laws.good_sessions_stay.Goals as goal

pub returns : goal.returns
returns c = good-stays
