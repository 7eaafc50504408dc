use Rattle.std.proofs.Common.{◌≡◌, ◌-◌, ◌≤◌, length, drop, vec_len, vec_capacity}
use Rattle.cov_tree.specs.Renumbered.{entry_visibilities, entry_without_vis}
use Rattle.cov_tree.proofs.Numbering.{GetsUntil}
use Rattle.cov_tree.proofs.entries.renumbering.renumber_all.Given as goal

abbrev pub invariant-loop-index : goal.invariant-loop-index
invariant-loop-index l = record {
  within : l.index ≤ length l.fn.entries.items;
  first : l.first ≤ l.next;
  gets : GetsUntil entry_visibilities entry_without_vis l.fn.entries.items l.entries.items (drop l.first l.from) l.index (l.next - l.first);
  capacity : vec_capacity l.entries ≡ vec_capacity l.fn.entries;
  len : vec_len l.entries ≡ vec_len l.fn.entries;
}

abbrev pub decreases-loop-index : goal.decreases-loop-index
decreases-loop-index l = length l.fn.entries.items - l.index
