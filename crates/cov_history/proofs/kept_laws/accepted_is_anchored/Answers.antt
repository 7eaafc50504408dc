use Rattle.cov_history.proofs.Older.{accepted-anchored}
use Rattle.cov_history.proofs.kept_laws.accepted_is_anchored.Goals as goal

pub returns : goal.returns
returns c = λ history s i legal good. accepted-anchored history s legal good i
