use Rattle.cov_session.proofs.Staying.{open-stays}
use Rattle.cov_session.proofs.laws.open_sessions_stay.Goals as goal

pub returns : goal.returns
returns c = open-stays c.good_sessions_stay.ensures
