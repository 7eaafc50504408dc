use Rattle.std.proofs.Common.{subst, arith}
use Rattle.cov_dd.specs.Diagrams.{IsDiagram}
use Rattle.cov_dd.proofs.Marking.{spread-none, spread-step}
use Rattle.cov_dd.proofs.table.Table.mark_below.Goals as goal

pub loop-node-init : goal.loop-node-init
loop-node-init c = record {
  within = omega (arith, c.requires);
  spread = spread-none c.args.self.now _ c.args.marks.now (omega (arith, c.requires));
}

pub loop-node-preserved : goal.loop-node-preserved
loop-node-preserved c = record {
  within = omega (arith, c.loop-node.invariant.within);
  spread = spread-step c.args.self.now (subst IsDiagram c.self.view_is c.self.invariant.diagram) c.args.marks.now c.loop-node.marks c.mark_children.new.marks
      _ c.loop-node.node (omega (arith, c.loop-node-test.true)) c.mark_children.auto.marks c.requires c.loop-node.invariant.spread c.mark_children.ensures;
}
