use Rattle.cov_history.proofs.Sound.{lines-sound}
use Rattle.cov_history.proofs.laws.lines_stay_sound.Goals as goal

pub returns : goal.returns
returns c = lines-sound
