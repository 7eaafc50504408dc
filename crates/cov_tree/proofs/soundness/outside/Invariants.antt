use Rattle.std.proofs.Common.{take, not}
use Rattle.std.specs.List.{list_any}
use Rattle.cov_dd.specs.Diagrams.{Extends, IsNode}
use Rattle.cov_tree.specs.Entries.{rows_in}
use Rattle.cov_tree.specs.Spreading.{reached_in}
use Rattle.cov_tree.proofs.soundness.outside.Given as goal

abbrev pub invariant-entries : goal.invariant-entries
invariant-entries l = record {
  extends : Extends l.fn.table l.table;
  node : IsNode l.table l.lost (λ c. list_any (λ row. not (reached_in l.fn.table l.reach c row.node)) (rows_in l.fn.table c (take l.entry-index l.entries)));
}
