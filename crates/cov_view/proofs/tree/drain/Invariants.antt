use Rattle.std.proofs.Common.{◌≡◌, ◌++◌, length, map}
use Rattle.cov_view.specs.SeenTree.{found_row}
use Rattle.cov_view.proofs.tree.drain.Given as goal

abbrev pub invariant-loop-path : goal.invariant-loop-path
invariant-loop-path l = record {
  rows : l.rows ++ map found_row l.found.entries ≡ l.initial.rows ++ map found_row l.initial.found.entries;
}

abbrev pub decreases-loop-path : goal.decreases-loop-path
decreases-loop-path l = length l.found.entries
