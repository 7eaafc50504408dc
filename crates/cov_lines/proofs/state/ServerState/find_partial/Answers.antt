use Rattle.std.proofs.Common.{◌∙◌, ap, subst}
use Rattle.cov_expr.specs.Binding.{bound, IsBindFaultOf}
use Rattle.cov_edit.specs.History.{options_of}
use Rattle.cov_lines.specs.Acting.{Finds}
use Rattle.cov_lines.specs.States.{Serving}
use Rattle.cov_lines.proofs.Acted.{bind-stops, stopped}
use Rattle.cov_lines.proofs.state.ServerState.find_partial.Goals as goal

pub returns-in_err-bind-clause-found : goal.returns-in_err-bind-clause-found
returns-in_err-bind-clause-found c =
    let st = c.args.self.now.state in
    stopped (Finds _ st) c.from_residual.result _ c.from_residual.ensures.1
    (bind-stops st c.args.choice.now c.in_err-bind.field-0.0
    (subst (λ names. IsBindFaultOf (bound names c.args.choice.now) c.in_err-bind.field-0.0) (c.options.ensures ∙ ap (λ (v : Serving). options_of v.state.history) c.self.view_is) c.in_err-bind.ensures.refused))
