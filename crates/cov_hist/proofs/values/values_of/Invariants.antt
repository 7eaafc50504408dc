use Rattle.std.proofs.Common.{◌≡◌, ◌≤◌, ◌-◌}
use Rattle.cov_hist.specs.Past.{is_bound_on}
use Rattle.cov_hist.proofs.Staying.{filled}
use Rattle.cov_hist.proofs.values.values_of.Given as goal

abbrev pub invariant-loop-number : goal.invariant-loop-number
invariant-loop-number l = record {
  within : l.number ≤ l.count;
  is : l.choice ≡ filled (is_bound_on l.partial) l.count l.number;
}

abbrev pub decreases-loop-number : goal.decreases-loop-number
decreases-loop-number l = l.count - l.number
