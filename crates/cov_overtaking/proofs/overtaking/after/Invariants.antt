use Rattle.std.proofs.Common.{◌≤◌, length}
use Rattle.cov_overtaking.proofs.overtaking.after.Given as goal

abbrev pub invariant-loop-base : goal.invariant-loop-base
invariant-loop-base l = record {
  few : l.count ≤ length l.commits;
}

abbrev pub decreases-loop-base : goal.decreases-loop-base
decreases-loop-base l = l.count
