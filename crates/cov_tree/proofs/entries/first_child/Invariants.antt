use Rattle.std.proofs.Common.{◌≡◌, ◌&&◌, position, take}
use Rattle.cov_base.specs.Rows.{has_node}
use Rattle.cov_tree.specs.Dated.{entry_at}
use Rattle.cov_tree.specs.Looking.{stands_in}
use Rattle.cov_tree.proofs.entries.first_child.Given as goal

abbrev pub invariant-nodes : goal.invariant-nodes
invariant-nodes l = l.first ≡ position (λ e. has_node e.node (take l.node-index l.nodes) && stands_in l.table l.choice l.dir l.name (entry_at l.at e).places) l.entries
