use Rattle.std.proofs.Common.{◌≡◌, ◌++◌, length}
use Rattle.cov_serve.specs.Program.{spaced}
use Rattle.cov_serve.proofs.job.joined.Given as goal

abbrev pub invariant-loop-ahead : goal.invariant-loop-ahead
invariant-loop-ahead l = l.line ++ spaced l.ahead ≡ l.first ++ spaced l.others

abbrev pub decreases-loop-ahead : goal.decreases-loop-ahead
decreases-loop-ahead l = length l.ahead
