use Rattle.std.proofs.Common.{◌≤◌, sym, subst}
use Rattle.std.specs.List.{AllByRecursion}
use Rattle.cov_edit.specs.History.{option_count}
use Rattle.cov_expr.specs.Formula.{reach}
use Rattle.cov_cond_text.specs.Conditional.{conjunction}
use Rattle.cov_cond_text.specs.declared.run.Run.{Run}
use Rattle.cov_cond.proofs.RunFacts.{runs_below}
use Rattle.cov_cond.proofs.importing.fitting.choices_with_room.Goals as goal

pub choices_within-requires-clause-declared : goal.choices_within-requires-clause-declared
choices_within-requires-clause-declared c =
    let count = option_count c.args.engine.now.history in
    subst (AllByRecursion (λ (r : Run). reach (conjunction r.conditions) ≤ count)) (sym c.runs-runs.ensures.runs) (runs_below count c.args.text.now c.requires.declared)
