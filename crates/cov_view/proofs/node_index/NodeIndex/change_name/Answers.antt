use Rattle.std.proofs.Common.{refl, sym, ◌∙◌}
use Rattle.cov_view.specs.Seen.{with_name_by}
use Rattle.cov_view.proofs.Keys.{keys-changed}
use Rattle.cov_view.proofs.node_index.NodeIndex.change_name.Goals as goal

pub returns : goal.returns
returns c = (c.requires.index.0 ∙ sym (keys-changed c.args.node.now (with_name_by c.args.name.items) (λ r. refl) c.args.rows.now), c.change_name.ensures)
