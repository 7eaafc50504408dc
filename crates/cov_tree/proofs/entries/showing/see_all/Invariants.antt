use Rattle.std.proofs.Common.{◌≡◌, ◌++◌, ℕ, Bool, length, map}
use Rattle.cov_tree.specs.Dated.{newest_entry}
use Rattle.cov_tree.specs.Shown.{rows_by}
use Rattle.cov_values.specs.Values.{Agrees}
use Rattle.cov_tree.proofs.entries.showing.see_all.Given as goal

abbrev pub invariant-loop-ahead : goal.invariant-loop-ahead
invariant-loop-ahead l = record {
  rows : (f : ℕ → Bool) → Agrees f l.values → l.tree ++ rows_by f (map newest_entry l.ahead) ≡ l.fn.tree ++ rows_by f (map newest_entry l.entries);
}

abbrev pub decreases-loop-ahead : goal.decreases-loop-ahead
decreases-loop-ahead l = length l.ahead
