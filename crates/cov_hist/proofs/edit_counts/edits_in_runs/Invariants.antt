use Rattle.std.proofs.Common.{◌≡◌, ◌+◌, ◌≤◌, length}
use Rattle.cov_edit.specs.Runs.{AreBelow, RunsRise}
use Rattle.cov_engine.specs.Refusing.{reach_of_runs}
use Rattle.cov_hist.specs.RunCounts.{edits_in_runs}
use Rattle.cov_hist.proofs.edit_counts.edits_in_runs.Given as goal

abbrev pub invariant-loop-ahead : goal.invariant-loop-ahead
invariant-loop-ahead l = record {
  all : l.edits + edits_in_runs l.choice l.count l.ahead ≡ edits_in_runs l.choice l.count l.runs;
  reach : reach_of_runs l.ahead ≤ length l.choice;
  rise : RunsRise l.ahead;
  below : AreBelow l.count l.ahead;
}

abbrev pub decreases-loop-ahead : goal.decreases-loop-ahead
decreases-loop-ahead l = length l.ahead
