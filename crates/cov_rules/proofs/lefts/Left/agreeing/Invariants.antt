use Rattle.std.proofs.Common.{drop, take}
use Rattle.cov_dd.specs.Diagrams.{Extends}
use Rattle.cov_rules.specs.Completion.{agreeing}
use Rattle.cov_rules.specs.Lefts.{IsLeft}
use Rattle.cov_rules.proofs.Binding.{AreAhead}
use Rattle.cov_rules.proofs.lefts.Left.agreeing.Given as goal

abbrev pub invariant-loop-binding : goal.invariant-loop-binding
invariant-loop-binding l = record {
  extends : Extends l.fn.table l.table;
  agree : IsLeft l.table l.count (agreeing l.count (take l.binding-index l.bindings)) l.left;
  ahead : AreAhead l.count l.left.bound (drop l.binding-index l.bindings);
}
