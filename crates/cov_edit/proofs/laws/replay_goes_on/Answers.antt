use Rattle.cov_edit.proofs.Replays.{replay-append}
use Rattle.cov_edit.proofs.laws.replay_goes_on.Goals as goal

pub returns : goal.returns
returns c = replay-append
