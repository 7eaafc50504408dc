use Rattle.std.proofs.Common.{◌≡◌, ◌++◌, length, take}
use Rattle.cov_overtaking.proofs.mark.append_all.Given as goal

abbrev pub invariant-loop-ahead : goal.invariant-loop-ahead
invariant-loop-ahead l = record {
  nodes : l.into ++ l.ahead ≡ l.fn.into ++ l.nodes;
  front : take (length l.fn.into) l.into ≡ l.fn.into;
}

abbrev pub decreases-loop-ahead : goal.decreases-loop-ahead
decreases-loop-ahead l = length l.ahead
