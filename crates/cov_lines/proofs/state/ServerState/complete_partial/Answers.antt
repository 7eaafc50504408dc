use Rattle.std.proofs.Common.{ap, subst}
use Rattle.cov_rules.specs.Completion.{IsRefusalBy}
use Rattle.cov_history.specs.Completing.{completed_in}
use Rattle.cov_lines.specs.Acting.{Finds}
use Rattle.cov_lines.specs.States.{Serving}
use Rattle.cov_lines.proofs.Acted.{complete-stops, stopped}
use Rattle.cov_lines.proofs.state.ServerState.complete_partial.Goals as goal

pub returns-in_err-complete-clause-found : goal.returns-in_err-complete-clause-found
returns-in_err-complete-clause-found c =
    let st = c.args.self.now.state in
    stopped (Finds _ st) c.from_residual.result _ c.from_residual.ensures.1
    (complete-stops c.open_options_are_declared.ensures st c.args.partial.now c.in_err-complete.field-0.0
    (subst (λ history. IsRefusalBy (completed_in history c.args.partial.now) c.in_err-complete.field-0.0) (ap (λ (v : Serving). v.state.history) c.self.view_is) c.in_err-complete.ensures.refused))
