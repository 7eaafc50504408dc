use Rattle.std.proofs.Common.{refl}
use Rattle.cov_base.specs.declared.number.NodeRef.TheVariants as nodes
use Rattle.cov_view.proofs.Changes.{rows-kept}
use Rattle.cov_view.proofs.view.View.add_line.Goals as goal

pub invariant_of-self : goal.invariant_of-self
invariant_of-self c =
    rows-kept c.append_lines.result c.self.inside.nodes_made (nodes.Old c.args.file) _ (λ q. refl) c.self.inside.rows c.append_lines.new.self c.append_lines.ensures.ok c.append_lines.ensures.err c.self.invariant
