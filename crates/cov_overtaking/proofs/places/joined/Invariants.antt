use Rattle.std.proofs.Common.{◌≡◌, ◌<◌, ◌&&◌, ◌||◌, ℕ, Bool, List, length}
use Rattle.std.specs.List.{AllByRecursion}
use Rattle.cov_dd.specs.Diagrams.{diagram_size, Extends}
use Rattle.cov_edit.specs.Touched.{has_number}
use Rattle.cov_overtaking.specs.Touches.{have_node_on, touched_in}
use Rattle.cov_overtaking.proofs.places.joined.Given as goal

abbrev pub invariant-loop-ahead : goal.invariant-loop-ahead
invariant-loop-ahead l = record {
  extends : Extends l.fn.table l.table;
  each : AllByRecursion (λ n. n < diagram_size l.table) l.each;
  long : length l.each ≡ length l.nodes;
  count : length l.within ≡ length l.ahead;
  conditions : AllByRecursion (λ n. n < diagram_size l.fn.table) l.within;
  are : (x : ℕ) (c : List Bool) →
      (have_node_on l.table l.nodes l.each x c || (has_number x l.nodes && touched_in l.fn.table l.within l.ahead x c)) ≡ (has_number x l.nodes && touched_in l.fn.table l.conditions l.edits x c);
}

abbrev pub decreases-loop-ahead : goal.decreases-loop-ahead
decreases-loop-ahead l = length l.ahead
