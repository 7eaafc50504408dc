use Rattle.std.proofs.Common.{◌≡◌, ◌≤◌, max, length}
use Rattle.cov_base.specs.declared.limits.TheConstants.{CHOICE_WIDTH}
use Rattle.cov_engine.specs.Refusing.{reach_of_runs}
use Rattle.cov_engine.proofs.refusing.reach_of_runs.Given as goal

abbrev pub invariant-loop-ahead : goal.invariant-loop-ahead
invariant-loop-ahead l = record {
  all : max l.most (reach_of_runs l.ahead) ≡ reach_of_runs l.runs;
  few : l.most ≤ CHOICE_WIDTH;
}

abbrev pub decreases-loop-ahead : goal.decreases-loop-ahead
decreases-loop-ahead l = length l.ahead
