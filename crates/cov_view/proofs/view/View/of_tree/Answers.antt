use Rattle.std.proofs.Common.{sym, subst}
use Rattle.cov_view.specs.Seen.{AreRows}
use Rattle.cov_view.proofs.Shown.{rows-bare}
use Rattle.cov_view.proofs.view.View.of_tree.Goals as goal

pub invariant_of-result : goal.invariant_of-result
invariant_of-result c = subst (AreRows 0) (sym c.in_ok-of_tree.ensures.rows) (rows-bare c.args.tree c.in_ok-of_tree.ensures.once)
