use Rattle.std.proofs.Common.{◌≡◌, ◌≤◌, ◌+◌, length}
use Rattle.cov_base.specs.declared.limits.TheConstants.{LIMITS}
use Rattle.cov_cond.specs.Committing.{run_bytes}
use Rattle.cov_cond.proofs.importing.fitting.run_bytes.Given as goal

abbrev pub invariant-loop-ahead : goal.invariant-loop-ahead
invariant-loop-ahead l = (l.bytes + run_bytes l.ahead ≡ run_bytes l.runs) × (l.bytes ≤ LIMITS.commit_bytes)

abbrev pub decreases-loop-ahead : goal.decreases-loop-ahead
decreases-loop-ahead l = length l.ahead
