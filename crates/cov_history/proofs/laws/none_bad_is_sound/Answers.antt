use Rattle.cov_history.proofs.BadChoices.{none-bad}
use Rattle.cov_history.proofs.laws.none_bad_is_sound.Goals as goal

pub returns : goal.returns
returns c = none-bad
