use Rattle.std.proofs.Common.{◌≡◌, ◌-◌, ◌≤◌, length, drop, reverse}
use Rattle.cov_tree.specs.Renumbered.{list_visibilities, list_without_vis}
use Rattle.cov_tree.proofs.Numbering.{GetsUntil}
use Rattle.cov_tree.proofs.renumbering.renumber_lists.Given as goal

abbrev pub invariant-loop-index : goal.invariant-loop-index
invariant-loop-index l = record {
  within : l.index ≤ length (reverse l.fn.older.lists);
  first : l.first ≤ l.next;
  gets : GetsUntil list_visibilities list_without_vis (reverse l.fn.older.lists) (reverse l.older.lists) (drop l.first l.from) l.index (l.next - l.first);
  room : l.older.room ≡ l.fn.older.room;
}

abbrev pub decreases-loop-index : goal.decreases-loop-index
decreases-loop-index l = length (reverse l.fn.older.lists) - l.index
