use Rattle.std.proofs.Common.{take, not, ◌||◌}
use Rattle.std.specs.List.{list_any}
use Rattle.cov_dd.specs.Diagrams.{value_in, Extends, IsNode}
use Rattle.cov_tree.specs.Entries.{rows_of}
use Rattle.cov_tree.proofs.soundness.or_outside.Given as goal

abbrev pub invariant-places : goal.invariant-places
invariant-places l = record {
  extends : Extends l.fn.table l.table;
  node : IsNode l.table l.found (λ c. value_in l.fn.table l.lost c || list_any (λ row. not (value_in l.fn.table l.reach c)) (rows_of l.fn.table c l.entry.node l.entry.kind (take l.place-index l.entry.places)));
}
