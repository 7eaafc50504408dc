use Rattle.cov_history.proofs.Inserts.{anchors-stay}
use Rattle.cov_history.proofs.kept_laws.anchors_stay.Goals as goal

pub returns : goal.returns
returns c = anchors-stay
