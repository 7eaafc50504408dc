use Rattle.std.proofs.Common.{◌≡◌, ◌≤◌, ◌++◌, map, length}
use Rattle.std.specs.List.{AllByRecursion}
use Rattle.cov_dd.specs.Diagrams.{Extends}
use Rattle.cov_edit.specs.History.{option_count}
use Rattle.cov_expr.specs.Formula.{reach}
use Rattle.cov_cond_text.specs.Conditional.{conjunction}
use Rattle.cov_cond.specs.Committing.{run_choice}
use Rattle.cov_cond.proofs.importing.choosing.run_choices.Given as goal

abbrev pub invariant-loop-ahead : goal.invariant-loop-ahead
invariant-loop-ahead l = record {
  history : l.engine.history ≡ l.fn.engine.history;
  extends : Extends l.fn.engine.table l.engine.table;
  choices : l.choices ++ map (run_choice l.fn.engine.history) l.ahead ≡ map (run_choice l.fn.engine.history) l.runs;
  declared : AllByRecursion (λ r. reach (conjunction r.conditions) ≤ option_count l.fn.engine.history) l.ahead;
}

abbrev pub decreases-loop-ahead : goal.decreases-loop-ahead
decreases-loop-ahead l = length l.ahead
