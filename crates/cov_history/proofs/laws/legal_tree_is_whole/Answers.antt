use Rattle.cov_history.proofs.WholeTrees.{legal-tree}
use Rattle.cov_history.proofs.laws.legal_tree_is_whole.Goals as goal

pub returns : goal.returns
returns c = legal-tree c.tree_is_whole.ensures
