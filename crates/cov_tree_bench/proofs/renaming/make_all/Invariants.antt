use Rattle.std.proofs.Common.{◌≡◌, ◌<◌, ◌≤◌, false, ◌∷◌, ℕ}
use Rattle.cov_base.specs.Rows.{has_node}
use Rattle.cov_dd.specs.Diagrams.{diagram_size}
use Rattle.cov_tree.specs.Carried.{AreNodesWith, AreOnceWith}
use Rattle.cov_tree.specs.Dated.{nodes_with}
use Rattle.cov_tree_bench.proofs.renaming.make_all.Given as goal

abbrev pub invariant-files : goal.invariant-files
invariant-files l = record {
  fresh : (q : ℕ) → l.file < q → has_node q (0 ∷ nodes_with l.plan l.entries) ≡ false;
  within : AreNodesWith l.table l.plan l.entries;
  once : AreOnceWith l.table l.plan l.entries;
  inner : 2 ≤ diagram_size l.table;
}
