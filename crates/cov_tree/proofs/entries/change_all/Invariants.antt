use Rattle.std.proofs.Common.{◌-◌, ◌≤◌, ◌∷◌, List, map, length, vec_len, vec_capacity}
use Rattle.indexmap.specs.IndexMap.{spare}
use Rattle.cov_base.specs.Rows.{AreDistinct}
use Rattle.cov_tree.specs.declared.dated.DatedEntry.{DatedEntry}
use Rattle.cov_tree.specs.Dated.{newest_entry, HaveRoomFor}
use Rattle.cov_tree.specs.Entries.{nodes_of}
use Rattle.cov_tree.specs.Installing.{IsIndex, AreChanged}
use Rattle.cov_tree.proofs.entries.change_all.Given as goal

abbrev pub invariant-loop-entry : goal.invariant-loop-entry
invariant-loop-entry l = record {
  distinct : AreDistinct (0 ∷ nodes_of l.plan.items);
  once : AreDistinct (0 ∷ nodes_of (map newest_entry l.entries.items));
  made : length l.plan.items ≤ vec_capacity l.entries - vec_len l.entries;
  indexed : IsIndex l.index.entries l.entries.items;
  spare : length l.plan.items ≤ spare l.index;
  changed : HaveRoomFor l.plan.items l.entries.items;
  goes_on : (after : List DatedEntry) → AreChanged l.at l.plan.items l.entries.items after → AreChanged l.at l.initial.plan.items l.initial.entries.items after;
}

abbrev pub decreases-loop-entry : goal.decreases-loop-entry
decreases-loop-entry l = length l.plan.items
