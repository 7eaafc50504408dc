use Rattle.std.proofs.Common.{sym, subst}
use Rattle.cov_view.specs.Seen.{AreRows}
use Rattle.cov_view.proofs.Standing.{rows-without}
use Rattle.cov_view.proofs.view.View.remove.Goals as goal

pub invariant_of-self : goal.invariant_of-self
invariant_of-self c =
    subst (AreRows c.self.inside.nodes_made) (sym c.remove.ensures)
    (rows-without c.args.node.now c.self.inside.nodes_made c.self.inside.rows c.self.invariant)
