use Rattle.std.proofs.Common.{◌∙◌, ap, sym, subst}
use Rattle.cov_alt.specs.Sides.{IsAltFaultOf, sides_at}
use Rattle.cov_lines.specs.Acting.{Acts}
use Rattle.cov_lines.specs.States.{Serving, State}
use Rattle.cov_lines.specs.Step.{compared}
use Rattle.cov_lines.proofs.Acted.{stopped}
use Rattle.cov_lines.proofs.Compared.{alt-stops}
use Rattle.cov_lines.proofs.state.ServerState.compare.Goals as goal

pub returns-in_err-lines : goal.returns-in_err-lines
returns-in_err-lines c =
    let st = c.args.self.now.state in
    let wanted = compared st c.args.choice.now c.args.token c.args.path.now in
    let back = c.in_ok-choice.ensures.same in
    let fault = c.in_err-lines.field-0.0 in
    subst (λ new. Acts wanted st new c.from_residual-in_err-lines.result) (sym back)
    (stopped (Acts wanted st st) c.from_residual-in_err-lines.result _ c.from_residual-in_err-lines.ensures.1
    (alt-stops st c.args.token c.args.path.now c.args.choice.now c.in_ok-partial.partial c.in_ok-option.option c.in_ok-choice.choice fault
    c.in_ok-partial.ensures.found c.in_ok-option.ensures.found c.in_ok-choice.ensures.found
    (subst (λ history. IsAltFaultOf (sides_at history c.in_ok-choice.choice c.in_ok-option.option c.args.path.now) fault) (ap (λ (t : State). t.history) ((ap (λ (v : Serving). v.state) c.self.view_is) ∙ back)) c.in_err-lines.ensures.refused)))
