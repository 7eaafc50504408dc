use Rattle.std.proofs.Common.{length}
use Rattle.cov_session.proofs.Refreshing.{Applied}
use Rattle.cov_session.proofs.session.refreshing.apply_all.Given as goal

abbrev pub invariant-loop-ahead : goal.invariant-loop-ahead
invariant-loop-ahead l = Applied l.fn.view l.view l.edits l.ahead l.index

abbrev pub decreases-loop-ahead : goal.decreases-loop-ahead
decreases-loop-ahead l = length l.ahead
