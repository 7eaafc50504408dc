use Rattle.std.proofs.Common.{take}
use Rattle.std.specs.List.{list_any}
use Rattle.cov_dd.specs.Diagrams.{Extends, IsNode}
use Rattle.cov_tree.specs.Entries.{rows_of}
use Rattle.cov_tree.specs.Spreading.{reached_in}
use Rattle.cov_tree.proofs.soundness.arrival.Given as goal

abbrev pub invariant-places : goal.invariant-places
invariant-places l = record {
  extends : Extends l.fn.table l.table;
  node : IsNode l.table l.found (λ c. list_any (λ row. reached_in l.fn.table l.reach c row.parent) (rows_of l.fn.table c l.entry.node l.entry.kind (take l.place-index l.entry.places)));
}
