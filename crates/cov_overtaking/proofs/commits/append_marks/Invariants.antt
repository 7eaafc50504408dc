use Rattle.std.proofs.Common.{◌≡◌, ◌++◌, length, take}
use Rattle.cov_overtaking.specs.Marks.{all_mark_nodes}
use Rattle.cov_overtaking.proofs.commits.append_marks.Given as goal

abbrev pub invariant-loop-ahead : goal.invariant-loop-ahead
invariant-loop-ahead l = record {
  nodes : l.into ++ all_mark_nodes l.ahead ≡ l.fn.into ++ all_mark_nodes l.marks;
  front : take (length l.fn.into) l.into ≡ l.fn.into;
}

abbrev pub decreases-loop-ahead : goal.decreases-loop-ahead
decreases-loop-ahead l = length l.ahead
