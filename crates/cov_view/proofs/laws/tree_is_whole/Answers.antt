use Rattle.cov_view.proofs.WholeTree.{tree_is_whole}
use Rattle.cov_view.proofs.laws.tree_is_whole.Goals as goal

pub returns : goal.returns
returns c = tree_is_whole
