use Rattle.std.proofs.Common.{◌∙◌, ap, sym}
use Rattle.cov_codes.specs.Codes.{past_code}
use Rattle.cov_hist.specs.Past.{choice_at}
use Rattle.cov_lines.specs.Acting.{Finds}
use Rattle.cov_lines.specs.Finding.{by_code}
use Rattle.cov_lines.specs.States.{Serving}
use Rattle.cov_lines.specs.Step.{choice_then}
use Rattle.cov_lines.proofs.Acted.{stopped}
use Rattle.cov_lines.proofs.Then.{then-stops}
use Rattle.cov_lines.proofs.state.ServerState.find_then.Goals as goal

pub returns : goal.returns
returns c =
    let now = ap (λ (v : Serving). choice_at v.state.history c.args.partial.now c.args.position) c.self.view_is in
    ap (by_code past_code) (sym now ∙ sym c.in_ok-choice_at.ensures)

pub returns-in_err-choice_at : goal.returns-in_err-choice_at
returns-in_err-choice_at c =
    let st = c.args.self.now.state in
    let now = ap (λ (v : Serving). choice_at v.state.history c.args.partial.now c.args.position) c.self.view_is in
    stopped (Finds (choice_then st c.args.partial.now c.args.position) st) c.from_residual.result _ c.from_residual.ensures.1
    (then-stops c.refused_options_are_declared.ensures st c.args.partial.now c.args.position c.in_err-choice_at.field-0.0 c.requires (sym now ∙ sym c.in_err-choice_at.ensures))
