use Rattle.std.proofs.Common.{◌≡◌, ◌<◌, ◌≤◌, ◌-◌, ◌++◌, length, map, take, drop, slice_index}
use Rattle.cov_dd.proofs.table.sweeping.renumber.Given as goal

abbrev pub invariant-loop-node : goal.invariant-loop-node
invariant-loop-node l = record {
  within : l.index ≤ length l.fn.nodes;
  mapped : l.nodes ≡ map (slice_index l.numbers) (take l.index l.fn.nodes) ++ drop l.index l.fn.nodes;
  short : length l.fn.nodes < 18446744073709551616;
}

abbrev pub decreases-loop-node : goal.decreases-loop-node
decreases-loop-node l = length l.fn.nodes - l.index
