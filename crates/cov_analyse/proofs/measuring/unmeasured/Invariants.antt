use Rattle.std.proofs.Common.{◌≤◌, ◌-◌, length}
use Rattle.cov_analyse.specs.LeastNumbers.{AreUnmeasured}
use Rattle.cov_analyse.proofs.measuring.unmeasured.Given as goal

abbrev pub invariant-loop-numbers : goal.invariant-loop-numbers
invariant-loop-numbers l = record {
  few : length l.numbers ≤ l.count;
  none : AreUnmeasured l.numbers;
}

abbrev pub decreases-loop-numbers : goal.decreases-loop-numbers
decreases-loop-numbers l = l.count - length l.numbers
