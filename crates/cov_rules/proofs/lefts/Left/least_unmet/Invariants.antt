use Rattle.std.proofs.Common.{◌≡◌, ◌+◌, drop, length}
use Rattle.cov_dd.specs.Diagrams.{Extends}
use Rattle.cov_rules.specs.Completion.{least_unmet}
use Rattle.cov_rules.specs.Installing.{expressions}
use Rattle.cov_rules.specs.Lefts.{choices_left, IsSound}
use Rattle.cov_rules.proofs.lefts.Left.least_unmet.Given as goal

abbrev pub invariant-loop-constraint : goal.invariant-loop-constraint
invariant-loop-constraint l = record {
  extends : Extends l.fn.table l.table;
  sound : IsSound l.table l.left;
  count : length l.left.bound ≡ length l.fn.self.bound;
  number : l.rule ≡ l.constraint-index;
  counted : least_unmet (expressions l.constraints) (choices_left l.fn.table l.fn.self) ≡ l.rule + least_unmet (expressions (drop l.constraint-index l.constraints)) (choices_left l.table l.left);
}
