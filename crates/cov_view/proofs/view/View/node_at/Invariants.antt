use Rattle.std.proofs.Common.{◌≡◌, drop}
use Rattle.cov_base.specs.declared.number.NodeRef.TheVariants as nodes
use Rattle.cov_view.specs.Seen.{node_at}
use Rattle.cov_view.proofs.view.View.node_at.Given as goal

abbrev pub invariant-names : goal.invariant-names
invariant-names l = node_at l.self.rows l.node (drop l.name-index l.path) ≡ node_at l.self.rows (nodes.Old 0) l.path
