use Rattle.std.proofs.Common.{◌≡◌, ◌≤◌, ◌+◌, length}
use Rattle.cov_base.specs.declared.limits.TheConstants.{LIMITS}
use Rattle.cov_cond.specs.Committing.{text_bytes}
use Rattle.cov_cond.proofs.importing.fitting.bytes_with.Given as goal

abbrev pub invariant-loop-ahead : goal.invariant-loop-ahead
invariant-loop-ahead l = (l.bytes + text_bytes l.ahead ≡ l.before + text_bytes l.texts) × (l.bytes ≤ LIMITS.commit_bytes)

abbrev pub decreases-loop-ahead : goal.decreases-loop-ahead
decreases-loop-ahead l = length l.ahead
