use Rattle.cov_dd.specs.Diagrams.{Extends}
use Rattle.cov_rules.specs.Lefts.{IsFixed}
use Rattle.cov_rules.proofs.lefts.Left.fix.Given as goal

abbrev pub invariant-loop-number : goal.invariant-loop-number
invariant-loop-number l = record {
  extends : Extends l.fn.table l.table;
  fixed : IsFixed l.fn.table l.table l.self l.number l.fn.node l.fixed;
}
