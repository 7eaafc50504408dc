use Rattle.std.proofs.Common.{◌≡◌, ◌≤◌, ◌-◌, ◌++◌, length, take, drop, vec_len, vec_capacity}
use Rattle.cov_base.specs.Replacing.{having}
use Rattle.cov_dd.proofs.keeper.renumber_nodes.Given as goal

abbrev pub invariant-loop-index : goal.invariant-loop-index
invariant-loop-index g l = record {
  within : l.index ≤ length l.fn.items.items;
  items : l.items.items ≡ having g.T.HasNode.having_node (take l.index l.fn.items.items) (drop l.first l.from) ++ drop l.index l.fn.items.items;
  long : length l.items.items ≡ length l.fn.items.items;
  capacity : vec_capacity l.items ≡ vec_capacity l.fn.items;
  len : vec_len l.items ≡ vec_len l.fn.items;
}

abbrev pub decreases-loop-index : goal.decreases-loop-index
decreases-loop-index g l = length l.fn.items.items - l.index
