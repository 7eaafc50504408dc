use Rattle.std.proofs.Common.{◌∙◌, ap, map, Ok, [], ◌∷◌}
use Rattle.cov_edit.specs.declared.edit.Edit.TheVariants as edits
use Rattle.cov_script.specs.Replies.{new_line_reply}
use Rattle.cov_session.specs.Counting.{own_lines}
use Rattle.cov_session.specs.Open.{as_named}
use Rattle.cov_lines.specs.Acting.{Acts}
use Rattle.cov_lines.specs.States.{Serving, State}
use Rattle.cov_lines.specs.Step.{added, exchanged}
use Rattle.cov_codes.specs.Stops.{session_stop}
use Rattle.cov_lines.proofs.Acted.{stopped, stops-later}
use Rattle.cov_lines.proofs.SessionFaults.{edit-stops}
use Rattle.cov_lines.proofs.state.ServerState.exchange.Goals as goal

pub returns-in_err-number : goal.returns-in_err-number
returns-in_err-number c = λ s has.
    let st = c.args.self.now.state in
    let name = c.args.name.now in
    let history = c.self.inside.engine.history in
    let es = edits.Insert c.args.file c.args.line c.args.text ∷ edits.Delete c.args.file c.args.line ∷ [] in
    let fault = c.in_err-number.field-0.0 in
    let same = ap (λ ss. record { history = history; sessions = map as_named ss; trees = c.self.inside.trees }) c.in_err-number.ensures.same ∙ ap (λ (v : Serving). v.state) c.self.view_is in
    stopped (Acts (exchanged st name s.session c.args.file c.args.line c.args.text) st _) c.from_residual.result _ c.from_residual.ensures.1
    (stops-later (added st name es) (λ (next : State). Ok (next, new_line_reply (own_lines s.session))) st _ (session_stop fault)
    (edit-stops st _ history c.self.inside.sessions c.self.inside.trees name es fault (ap (λ (v : Serving). v.state) c.self.view_is) same c.self.invariant c.in_err-number.ensures.refused))

pub invariant_of-self-in_err-reply_new_line : goal.invariant_of-self-in_err-reply_new_line
invariant_of-self-in_err-reply_new_line c = c.in_ok-number.ensures.open c.self.inside.engine.history c.self.invariant

pub invariant_of-self-2 : goal.invariant_of-self-2
invariant_of-self-2 c = c.in_ok-number.ensures.open c.self.inside.engine.history c.self.invariant
