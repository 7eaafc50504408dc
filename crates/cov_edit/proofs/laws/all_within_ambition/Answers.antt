use Rattle.cov_edit.proofs.Replays.{sides_within}
use Rattle.cov_edit.proofs.laws.all_within_ambition.Goals as goal

pub returns : goal.returns
returns c = sides_within
