use Rattle.std.proofs.Common.{◌≡◌, ◌≤◌, length}
use Rattle.cov_base.specs.declared.limits.TheConstants.{LIMITS}
use Rattle.cov_edit.specs.Runs.{AreBelow}
use Rattle.cov_engine.specs.Refusing.{first_run_outside, reach_of_runs}
use Rattle.cov_engine.proofs.refusing.first_run_outside.Given as goal

abbrev pub invariant-loop-ahead : goal.invariant-loop-ahead
invariant-loop-ahead l = record {
  same : first_run_outside l.choice l.ahead ≡ first_run_outside l.choice l.runs;
  reach : reach_of_runs l.ahead ≤ length l.choice;
  few : AreBelow LIMITS.edits l.ahead;
}

abbrev pub decreases-loop-ahead : goal.decreases-loop-ahead
decreases-loop-ahead l = length l.ahead
