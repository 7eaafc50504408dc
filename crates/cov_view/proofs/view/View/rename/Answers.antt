use Rattle.std.proofs.Common.{refl}
use Rattle.cov_view.specs.Seen.{with_name_by}
use Rattle.cov_view.proofs.Changes.{rows-kept}
use Rattle.cov_view.proofs.view.View.rename.Goals as goal

pub invariant_of-self : goal.invariant_of-self
invariant_of-self c =
    rows-kept c.set_name.result c.self.inside.nodes_made c.args.node.now (with_name_by c.in_ok-name.name) (λ q. refl) c.self.inside.rows c.set_name.new.self c.set_name.ensures.ok c.set_name.ensures.err c.self.invariant
