use Rattle.std.proofs.Common.{◌≡◌, ◌≤◌, length}
use Rattle.cov_visible.proofs.SharedLines.{ArePartly}
use Rattle.cov_visible.proofs.viewing.share_lines.Given as goal

abbrev pub invariant-loop-ahead : goal.invariant-loop-ahead
invariant-loop-ahead l = record {
  rows : ArePartly l.table l.choice l.at l.files l.rows l.view.rows l.ahead;
  within : length l.ahead ≤ length l.rows;
  nodes : l.view.nodes_made ≡ l.initial.view.nodes_made;
  lines : l.view.lines_made ≡ l.initial.view.lines_made;
}

abbrev pub decreases-loop-ahead : goal.decreases-loop-ahead
decreases-loop-ahead l = length l.ahead
