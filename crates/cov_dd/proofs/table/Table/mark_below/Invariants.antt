use Rattle.std.proofs.Common.{◌≤◌}
use Rattle.cov_dd.specs.Diagrams.{diagram_size}
use Rattle.cov_dd.specs.Marks.{AreSpread}
use Rattle.cov_dd.proofs.table.Table.mark_below.Given as goal

abbrev pub invariant-loop-node : goal.invariant-loop-node
invariant-loop-node l = record {
  within : l.node ≤ diagram_size l.self;
  spread : AreSpread l.self l.node l.fn.marks l.marks;
}

abbrev pub decreases-loop-node : goal.decreases-loop-node
decreases-loop-node l = l.node
