use Rattle.std.proofs.Common.{refl, sym, ◌∙◌}
use Rattle.cov_view.specs.Seen.{with_parent_by}
use Rattle.cov_view.proofs.Keys.{keys-changed}
use Rattle.cov_view.proofs.node_index.NodeIndex.change_parent.Goals as goal

pub returns : goal.returns
returns c = (c.requires.index.0 ∙ sym (keys-changed c.args.node.now (with_parent_by c.args.parent.now) (λ r. refl) c.args.rows.now), c.change_parent.ensures)
