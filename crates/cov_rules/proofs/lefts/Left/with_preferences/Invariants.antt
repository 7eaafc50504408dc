use Rattle.std.proofs.Common.{take}
use Rattle.cov_dd.specs.Diagrams.{Extends}
use Rattle.cov_rules.specs.Installing.{expressions}
use Rattle.cov_rules.specs.Lefts.{Keeps}
use Rattle.cov_rules.proofs.lefts.Left.with_preferences.Given as goal

abbrev pub invariant-loop-wish : goal.invariant-loop-wish
invariant-loop-wish l = record {
  extends : Extends l.fn.table l.table;
  kept : Keeps l.fn.table l.table l.fn.self (expressions (take l.wish-index l.wishes)) l.left;
}
