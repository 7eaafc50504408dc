use Rattle.cov_history.proofs.Sound.{legal-sound}
use Rattle.cov_history.proofs.laws.legal_is_sound.Goals as goal

pub returns : goal.returns
returns c = legal-sound
