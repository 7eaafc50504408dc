use Rattle.std.proofs.Common.{◌≡◌, ◌++◌, length, map, take}
use Rattle.cov_dd.proofs.keeper.append_nodes.Given as goal

abbrev pub invariant-loop-ahead : goal.invariant-loop-ahead
invariant-loop-ahead g l = record {
  nodes : l.into ++ map g.T.HasNode.node_of l.ahead ≡ l.fn.into ++ map g.T.HasNode.node_of l.items;
  front : take (length l.fn.into) l.into ≡ l.fn.into;
}

abbrev pub decreases-loop-ahead : goal.decreases-loop-ahead
decreases-loop-ahead g l = length l.ahead
