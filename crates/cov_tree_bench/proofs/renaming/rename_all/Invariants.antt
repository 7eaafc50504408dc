use Rattle.std.proofs.Common.{◌≤◌, ◌+◌}
use Rattle.cov_dd.specs.Diagrams.{diagram_size}
use Rattle.cov_tree.specs.Carried.{AreNodesAt, AreOnceAt}
use Rattle.cov_tree_bench.proofs.renaming.rename_all.Given as goal

abbrev pub invariant-renames : goal.invariant-renames
invariant-renames l = record {
  within : AreNodesAt l.table l.entries;
  once : AreOnceAt l.table l.entries;
  from : l.entries.from ≤ l.rename + 1;
  inner : 2 ≤ diagram_size l.table;
}
