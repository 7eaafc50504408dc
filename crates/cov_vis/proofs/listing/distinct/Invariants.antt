use Rattle.std.proofs.Common.{◌≡◌, length}
use Rattle.cov_vis.specs.Listings.{are_distinct}
use Rattle.cov_vis.proofs.listing.distinct.Given as goal

abbrev pub invariant-loop-ahead : goal.invariant-loop-ahead
invariant-loop-ahead l = record {
  same : are_distinct l.entries ≡ are_distinct l.ahead;
}

abbrev pub decreases-loop-ahead : goal.decreases-loop-ahead
decreases-loop-ahead l = length l.ahead
