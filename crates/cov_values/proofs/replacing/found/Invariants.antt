use Rattle.std.proofs.Common.{◌≡◌, length}
use Rattle.cov_values.specs.Replaced.{found_in}
use Rattle.cov_values.proofs.replacing.found.Given as goal

abbrev pub invariant-loop-ahead : goal.invariant-loop-ahead
invariant-loop-ahead l = record {
  same : found_in l.ahead l.node ≡ found_in l.replaced l.node;
}

abbrev pub decreases-loop-ahead : goal.decreases-loop-ahead
decreases-loop-ahead l = length l.ahead
