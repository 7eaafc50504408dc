use Rattle.cov_history.proofs.Inserts.{insert-anchor}
use Rattle.cov_history.proofs.kept_laws.insert_after_anchor.Goals as goal

pub returns : goal.returns
returns c = insert-anchor
