use Rattle.std.proofs.Common.{◌≡◌, ◌++◌, length}
use Rattle.cov_tree.specs.Entries.{rows_of}
use Rattle.cov_tree.proofs.entries.showing.add_places.Given as goal

abbrev pub invariant-loop-ahead : goal.invariant-loop-ahead
invariant-loop-ahead l = record {
  rows : l.tree ++ rows_of l.table l.choice l.node l.kind l.ahead ≡ l.fn.tree ++ rows_of l.table l.choice l.node l.kind l.places;
}

abbrev pub decreases-loop-ahead : goal.decreases-loop-ahead
decreases-loop-ahead l = length l.ahead
