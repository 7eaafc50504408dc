use Rattle.std.proofs.Common.{◌-◌, ◌≤◌, length, drop, take}
use Rattle.cov_tree.proofs.CallerLemmas.{GetsUntil}
use Rattle.cov_visible.specs.Parts.{part_node}
use Rattle.cov_visible.specs.Renumbered.{kept_nodes, ArePartsRenumbered}
use Rattle.cov_visible.proofs.file_parts.renumber_all.Given as goal

abbrev pub invariant-loop-index : goal.invariant-loop-index
invariant-loop-index l = record {
  within : l.index ≤ length l.fn.parts.items;
  first : l.first ≤ l.next;
  gets : GetsUntil kept_nodes part_node l.fn.parts.items l.parts.items (drop l.first l.from) l.index (l.next - l.first);
  parts : ArePartsRenumbered (take l.index l.fn.parts.items) (take l.index l.parts.items);
}

abbrev pub decreases-loop-index : goal.decreases-loop-index
decreases-loop-index l = length l.fn.parts.items - l.index
