use Rattle.std.proofs.Common.{◌≡◌, ◌≤◌, ◌-◌, length, replicate}
use Rattle.cov_overtaking.proofs.places.none_for.Given as goal

abbrev pub invariant-loop-nodes : goal.invariant-loop-nodes
invariant-loop-nodes l = record {
  within : length l.nodes ≤ l.count;
  nodes : l.nodes ≡ replicate (length l.nodes) 0;
}

abbrev pub decreases-loop-nodes : goal.decreases-loop-nodes
decreases-loop-nodes l = l.count - length l.nodes
