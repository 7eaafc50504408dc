use Rattle.std.proofs.Common.{◌≡◌, length}
use Rattle.cov_hist.specs.Past.{first_late}
use Rattle.cov_hist.proofs.values.late_among.Given as goal

abbrev pub invariant-loop-ahead : goal.invariant-loop-ahead
invariant-loop-ahead l = first_late l.count l.ahead ≡ first_late l.count l.bindings

abbrev pub decreases-loop-ahead : goal.decreases-loop-ahead
decreases-loop-ahead l = length l.ahead
