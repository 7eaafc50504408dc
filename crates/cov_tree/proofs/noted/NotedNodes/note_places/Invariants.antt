use Rattle.std.proofs.Common.{take}
use Rattle.cov_tree.specs.Noted.{AreNoted, Keeps}
use Rattle.cov_tree.proofs.noted.NotedNodes.note_places.Given as goal

abbrev pub invariant-places : goal.invariant-places
invariant-places l = record {
  kept : Keeps l.fn.self.nodes.entries l.self.nodes.entries;
  noted : AreNoted l.self.nodes.entries l.node (take l.place-index l.places);
}
