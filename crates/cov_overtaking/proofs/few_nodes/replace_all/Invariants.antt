use Rattle.std.proofs.Common.{◌≡◌, ◌≤◌, ◌-◌, length, take}
use Rattle.cov_overtaking.proofs.few_nodes.replace_all.Given as goal

abbrev pub invariant-loop-index : goal.invariant-loop-index
invariant-loop-index l = record {
  within : l.index ≤ length l.nodes;
  long : length l.nodes ≡ length l.fn.nodes;
  front : take l.index l.nodes ≡ take l.index l.from;
}

abbrev pub decreases-loop-index : goal.decreases-loop-index
decreases-loop-index l = length l.fn.nodes - l.index
