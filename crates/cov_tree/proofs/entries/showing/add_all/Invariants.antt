use Rattle.std.proofs.Common.{◌≡◌, ◌++◌, length, map}
use Rattle.cov_tree.specs.Dated.{entry_at}
use Rattle.cov_tree.specs.Entries.{rows_in}
use Rattle.cov_tree.proofs.entries.showing.add_all.Given as goal

abbrev pub invariant-loop-ahead : goal.invariant-loop-ahead
invariant-loop-ahead l = record {
  rows : l.tree ++ rows_in l.table l.choice (map (entry_at l.at) l.ahead) ≡ l.fn.tree ++ rows_in l.table l.choice (map (entry_at l.at) l.entries);
}

abbrev pub decreases-loop-ahead : goal.decreases-loop-ahead
decreases-loop-ahead l = length l.ahead
