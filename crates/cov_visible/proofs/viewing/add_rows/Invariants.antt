use Rattle.std.proofs.Common.{◌≡◌, ◌++◌, List, length}
use Rattle.cov_base.specs.Rows.{Row}
use Rattle.cov_visible.specs.Showing.{bare_rows}
use Rattle.cov_visible.proofs.viewing.add_rows.Given as goal

abbrev pub invariant-loop-ahead : goal.invariant-loop-ahead
invariant-loop-ahead l = record {
  rows : (done : List Row) × (done ++ l.ahead ≡ l.rows) × (l.view.rows ≡ bare_rows done);
  nodes : l.view.nodes_made ≡ l.initial.view.nodes_made;
  lines : l.view.lines_made ≡ l.initial.view.lines_made;
}

abbrev pub decreases-loop-ahead : goal.decreases-loop-ahead
decreases-loop-ahead l = length l.ahead
