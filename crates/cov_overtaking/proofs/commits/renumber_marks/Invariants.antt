use Rattle.std.proofs.Common.{◌≡◌, ◌≤◌, ◌-◌, ◌++◌, length, take, drop, vec_len, vec_capacity}
use Rattle.cov_overtaking.specs.Marks.{all_mark_nodes, marks_having}
use Rattle.cov_overtaking.proofs.commits.renumber_marks.Given as goal

abbrev pub invariant-loop-index : goal.invariant-loop-index
invariant-loop-index l = record {
  within : l.index ≤ length l.marks.items;
  items : take l.index l.marks.items ++ marks_having (drop l.index l.marks.items) l.ahead ≡ marks_having l.fn.marks.items l.from;
  room : length (all_mark_nodes (drop l.index l.marks.items)) ≤ length l.ahead;
  capacity : vec_capacity l.marks ≡ vec_capacity l.fn.marks;
  len : vec_len l.marks ≡ vec_len l.fn.marks;
}

abbrev pub decreases-loop-index : goal.decreases-loop-index
decreases-loop-index l = length l.fn.marks.items - l.index
