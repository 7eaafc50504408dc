use Rattle.std.proofs.Common.{[]}
use Rattle.cov_history.proofs.Inserts.{stands-amid, stands-next}
use Rattle.cov_history.proofs.kept_laws.edits_stand.Goals as goal

pub returns : goal.returns
returns c = λ history. ((λ es. stands-amid history [] es []), stands-next history)
