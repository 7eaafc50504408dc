use Rattle.cov_history.proofs.Replays.{replay-seen}
use Rattle.cov_history.proofs.kept_laws.holding_follows_replay.Goals as goal

pub returns : goal.returns
returns c = replay-seen
