use Rattle.std.proofs.Common.{◌≡◌, ◌++◌, ℕ, Bool, length}
use Rattle.cov_tree.specs.Shown.{rows_of_by}
use Rattle.cov_values.specs.Values.{Agrees}
use Rattle.cov_tree.proofs.entries.showing.see_places.Given as goal

abbrev pub invariant-loop-ahead : goal.invariant-loop-ahead
invariant-loop-ahead l = record {
  rows : (f : ℕ → Bool) → Agrees f l.values → l.tree ++ rows_of_by f l.node l.kind l.ahead ≡ l.fn.tree ++ rows_of_by f l.node l.kind l.places;
  grows : (f : ℕ → Bool) → Agrees f l.values → Agrees f l.fn.values;
}

abbrev pub decreases-loop-ahead : goal.decreases-loop-ahead
decreases-loop-ahead l = length l.ahead
