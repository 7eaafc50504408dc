use Rattle.std.proofs.Common.{◌≡◌, length}
use Rattle.cov_tree.specs.Dated.{rows_at}
use Rattle.cov_view.specs.Paths.{path_node}
use Rattle.cov_visible.proofs.reading.node_at.Given as goal

abbrev pub invariant-loop-ahead : goal.invariant-loop-ahead
invariant-loop-ahead l =
    let rows = rows_at l.visible.table l.choice l.at l.visible.entries in
    path_node rows l.node l.ahead ≡ path_node rows 0 l.path

abbrev pub decreases-loop-ahead : goal.decreases-loop-ahead
decreases-loop-ahead l = length l.ahead
