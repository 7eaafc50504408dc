use Rattle.cov_history.proofs.Older.{accepted-there}
use Rattle.cov_history.proofs.kept_laws.accepted_is_there.Goals as goal

pub returns : goal.returns
returns c = λ history s d legal good. accepted-there history s legal good d
