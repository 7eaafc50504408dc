use Rattle.cov_history.proofs.Shown.{replay-stands}
use Rattle.cov_history.proofs.laws.replay_stands.Goals as goal

pub returns : goal.returns
returns c = replay-stands
