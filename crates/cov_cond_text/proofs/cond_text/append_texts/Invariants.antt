use Rattle.std.proofs.Common.{◌≡◌, ◌++◌, length}
use Rattle.cov_cond_text.proofs.cond_text.append_texts.Given as goal

abbrev pub invariant-loop-ahead : goal.invariant-loop-ahead
invariant-loop-ahead l = l.texts ++ l.ahead ≡ l.fn.texts ++ l.more

abbrev pub decreases-loop-ahead : goal.decreases-loop-ahead
decreases-loop-ahead l = length l.ahead
