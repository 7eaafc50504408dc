use Rattle.std.proofs.Common.{refl, sym, subst}
use Rattle.cov_view.specs.Seen.{AreRows, with_parent_by}
use Rattle.cov_view.proofs.Standing.{rows-changed}
use Rattle.cov_view.proofs.view.View.put_into.Goals as goal

pub invariant_of-self : goal.invariant_of-self
invariant_of-self c =
    subst (AreRows c.self.inside.nodes_made) (sym c.set_parent.ensures)
    (rows-changed c.args.node.now (with_parent_by c.args.parent.now) (λ q. refl) c.self.inside.nodes_made c.self.inside.rows c.self.invariant)
