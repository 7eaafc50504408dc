use Rattle.std.proofs.Common.{refl, sym, subst}
use Rattle.cov_view.specs.Lines.{without_ref}
use Rattle.cov_view.specs.Seen.{AreRows, with_lines_by}
use Rattle.cov_view.proofs.Standing.{rows-changed}
use Rattle.cov_view.proofs.view.View.delete.Goals as goal

pub invariant_of-self : goal.invariant_of-self
invariant_of-self c =
    subst (AreRows c.self.inside.nodes_made) (sym c.delete_line.ensures)
    (rows-changed c.args.file.now (with_lines_by (without_ref c.args.line.now)) (λ q. refl) c.self.inside.nodes_made c.self.inside.rows c.self.invariant)
