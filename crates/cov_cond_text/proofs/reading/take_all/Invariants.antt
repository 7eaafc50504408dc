use Rattle.std.proofs.Common.{length}
use Rattle.cov_cond_text.proofs.ReadLines.{GoesOn}
use Rattle.cov_cond_text.proofs.reading.take_all.Given as goal

abbrev pub invariant-loop-ahead : goal.invariant-loop-ahead
invariant-loop-ahead l = GoesOn l.options.names l.fn.lines l.number l.reader l.ahead

abbrev pub decreases-loop-ahead : goal.decreases-loop-ahead
decreases-loop-ahead l = length l.ahead
