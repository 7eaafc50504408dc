use Rattle.std.proofs.Common.{take}
use Rattle.cov_tree.specs.Noted.{ArePlanNoted, Keeps}
use Rattle.cov_tree.proofs.noted.NotedNodes.note_all.Given as goal

abbrev pub invariant-plan : goal.invariant-plan
invariant-plan l = record {
  kept : Keeps l.fn.self.nodes.entries l.self.nodes.entries;
  noted : ArePlanNoted l.self.nodes.entries (take l.entry-index l.plan);
}
