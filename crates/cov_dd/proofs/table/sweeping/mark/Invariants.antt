use Rattle.std.proofs.Common.{◌≡◌, ◌<◌, ◌||◌, ℕ, length}
use Rattle.std.specs.List.{AllByRecursion}
use Rattle.cov_dd.specs.Marks.{is_marked, is_one_of}
use Rattle.cov_dd.proofs.table.sweeping.mark.Given as goal

abbrev pub invariant-loop-ahead : goal.invariant-loop-ahead
invariant-loop-ahead l = record {
  within : AllByRecursion (λ a. a < length l.marks) l.ahead;
  marked : (n : ℕ) → (is_one_of l.ahead n || is_marked l.marks n) ≡ (is_one_of l.nodes n || is_marked l.fn.marks n);
}

abbrev pub decreases-loop-ahead : goal.decreases-loop-ahead
decreases-loop-ahead l = length l.ahead
