use Rattle.std.proofs.Common.{◌≡◌, ℕ, List, ◌++◌, length}
use Rattle.cov_base.specs.Rows.{RowChange}
use Rattle.cov_dd.specs.Diagrams.{Extends}
use Rattle.cov_tree.specs.Carried.{AreNodesWith, AreOnceWith}
use Rattle.cov_tree.specs.Dated.{nodes_with, kinds_with}
use Rattle.cov_visible.specs.RowPlans.{row_changes, AlsoMakes, AreWithin, MakeNewNodes, nodes_after_all, kinds_after_all}
use Rattle.cov_visible.proofs.row_planning.plan_rows.Given as goal

abbrev pub invariant-loop-ahead : goal.invariant-loop-ahead
invariant-loop-ahead l = record {
  extends : Extends l.fn.table l.table;
  within : AreNodesWith l.table l.plan l.entries;
  once : AreOnceWith l.table l.plan l.entries;
  new : MakeNewNodes (nodes_with l.plan l.entries) (row_changes l.ahead);
  on : AreWithin l.table (row_changes l.ahead);
  makes : (done : List (RowChange × ℕ)) × AlsoMakes l.fn.table l.table l.entries l.fn.plan l.plan done × (done ++ row_changes l.ahead ≡ row_changes l.edits);
  kinds : kinds_after_all (row_changes l.ahead) (kinds_with l.plan l.entries) ≡ kinds_after_all (row_changes l.edits) (kinds_with l.fn.plan l.entries);
  nodes : nodes_after_all (row_changes l.ahead) (nodes_with l.plan l.entries) ≡ nodes_after_all (row_changes l.edits) (nodes_with l.fn.plan l.entries);
}

abbrev pub decreases-loop-ahead : goal.decreases-loop-ahead
decreases-loop-ahead l = length l.ahead
