use Rattle.std.proofs.Common.{◌≡◌, ◌≤◌, ◌+◌, ◌++◌, take, drop, length}
use Rattle.cov_cond.specs.Importing.{plain_texts, run_commits}
use Rattle.cov_cond.proofs.importing.committing.add_run_commits.Given as goal

abbrev pub invariant-loop-left : goal.invariant-loop-left
invariant-loop-left l = record {
  commits : l.commits.commands ≡ l.fn.commits.commands ++ run_commits l.engine.history l.before (drop l.left l.runs);
  before : l.before ≡ length (plain_texts (take l.left l.runs));
  few : length l.commits.commands + l.left ≤ length l.runs + 1;
  within : l.left ≤ length l.runs;
}

abbrev pub decreases-loop-left : goal.decreases-loop-left
decreases-loop-left l = l.left
