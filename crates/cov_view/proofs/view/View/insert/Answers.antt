use Rattle.std.proofs.Common.{refl}
use Rattle.cov_view.proofs.Changes.{rows-kept}
use Rattle.cov_view.proofs.view.View.insert.Goals as goal

pub invariant_of-self-2 : goal.invariant_of-self-2
invariant_of-self-2 c =
    rows-kept c.insert_line.result c.self.inside.nodes_made c.args.file.now _ (λ q. refl) c.self.inside.rows c.insert_line.new.self c.insert_line.ensures.ok c.insert_line.ensures.err c.self.invariant
