use Rattle.std.proofs.Common.{◌≡◌, length}
use Rattle.cov_view.specs.SeenTree.{with_view_rows, AreNamed}
use Rattle.cov_view.proofs.tree.put_nodes.Given as goal

abbrev pub invariant-loop-ahead : goal.invariant-loop-ahead
invariant-loop-ahead l = record {
  found : with_view_rows l.rows l.ahead l.found ≡ with_view_rows l.rows l.rows l.initial.found;
  named : AreNamed l.ahead → AreNamed l.rows;
}

abbrev pub decreases-loop-ahead : goal.decreases-loop-ahead
decreases-loop-ahead l = length l.ahead
