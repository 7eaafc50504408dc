use Rattle.std.proofs.Common.{◌≡◌, ◌++◌, length}
use Rattle.cov_cond_text.specs.Conditional.{lines_in, projection, HasOptionsBelow}
use Rattle.cov_cond_text.proofs.cond_text.project_runs.Given as goal

abbrev pub invariant-loop-ahead : goal.invariant-loop-ahead
invariant-loop-ahead l = (l.texts ++ projection (lines_in l.ahead) l.choice ≡ projection (lines_in l.runs) l.choice) × HasOptionsBelow (length l.choice) (lines_in l.ahead)

abbrev pub decreases-loop-ahead : goal.decreases-loop-ahead
decreases-loop-ahead l = length l.ahead
