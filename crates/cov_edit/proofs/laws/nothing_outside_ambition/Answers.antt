use Rattle.cov_edit.proofs.Replays.{nothing_outside}
use Rattle.cov_edit.proofs.laws.nothing_outside_ambition.Goals as goal

pub returns : goal.returns
returns c = nothing_outside
