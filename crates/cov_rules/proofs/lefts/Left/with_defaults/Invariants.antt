use Rattle.std.proofs.Common.{take}
use Rattle.cov_dd.specs.Diagrams.{Extends}
use Rattle.cov_rules.specs.Completion.{fallbacks}
use Rattle.cov_rules.specs.Lefts.{Keeps}
use Rattle.cov_rules.proofs.lefts.Left.with_defaults.Given as goal

abbrev pub invariant-loop-default : goal.invariant-loop-default
invariant-loop-default l = record {
  extends : Extends l.fn.table l.table;
  kept : Keeps l.fn.table l.table l.fn.self (fallbacks (take l.default-index l.defaults)) l.left;
}
