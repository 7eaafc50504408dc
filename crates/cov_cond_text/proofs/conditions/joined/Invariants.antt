use Rattle.std.proofs.Common.{◌≡◌, length}
use Rattle.cov_cond_text.specs.Conjunction.{joined}
use Rattle.cov_cond_text.proofs.conditions.joined.Given as goal

abbrev pub invariant-loop-ahead : goal.invariant-loop-ahead
invariant-loop-ahead l = joined l.all l.ahead ≡ joined l.fn.first l.more

abbrev pub decreases-loop-ahead : goal.decreases-loop-ahead
decreases-loop-ahead l = length l.ahead
