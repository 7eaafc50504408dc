use Rattle.cov_view.proofs.Holding.{bare-again}
use Rattle.cov_view.proofs.row_index.RowIndex.shared.Goals as goal

pub returns : goal.returns
returns c = bare-again c.args.tree
