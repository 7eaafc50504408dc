use Rattle.std.proofs.Common.{◌≡◌, length}
use Rattle.cov_analyse.specs.Bounding.{are_bounds}
use Rattle.cov_analyse.proofs.bounding.all_bound.Given as goal

abbrev pub invariant-loop-ahead : goal.invariant-loop-ahead
invariant-loop-ahead l = record {
  same : are_bounds l.bounds l.choice l.entries l.bounds ≡ are_bounds l.bounds l.choice l.ahead l.numbers;
}

abbrev pub decreases-loop-ahead : goal.decreases-loop-ahead
decreases-loop-ahead l = length l.ahead
