use Rattle.std.proofs.Common.{◌∙◌, ap, map, Ok, [], ◌∷◌}
use Rattle.cov_session.specs.Counting.{line_made}
use Rattle.cov_session.specs.Open.{as_named}
use Rattle.cov_lines.specs.Acting.{Acts}
use Rattle.cov_lines.specs.Replies.{edit_reply}
use Rattle.cov_lines.specs.States.{Serving, State}
use Rattle.cov_lines.specs.Step.{added, edited}
use Rattle.cov_codes.specs.Stops.{session_stop}
use Rattle.cov_lines.proofs.Acted.{stopped, stops-later}
use Rattle.cov_lines.proofs.SessionFaults.{edit-stops}
use Rattle.cov_lines.proofs.state.ServerState.edit.Goals as goal

pub returns-in_err-number : goal.returns-in_err-number
returns-in_err-number c = λ s has.
    let st = c.args.self.now.state in
    let name = c.args.name.now in
    let history = c.self.inside.engine.history in
    let es = c.args.edit ∷ [] in
    let fault = c.in_err-number.field-0.0 in
    let same = ap (λ ss. record { history = history; sessions = map as_named ss; trees = c.self.inside.trees }) c.in_err-number.ensures.same ∙ ap (λ (v : Serving). v.state) c.self.view_is in
    stopped (Acts (edited st name s.session c.args.edit) st _) c.from_residual.result _ c.from_residual.ensures.1
    (stops-later (added st name es) (λ (next : State). Ok (next, edit_reply (line_made s.session c.args.edit))) st _ (session_stop fault)
    (edit-stops st _ history c.self.inside.sessions c.self.inside.trees name es fault (ap (λ (v : Serving). v.state) c.self.view_is) same c.self.invariant c.in_err-number.ensures.refused))

pub invariant_of-self-in_err-reply_new_line-in-Some : goal.invariant_of-self-in_err-reply_new_line-in-Some
invariant_of-self-in_err-reply_new_line-in-Some c = c.in_ok-number.ensures.open c.self.inside.engine.history c.self.invariant

pub invariant_of-self-in_err-reply_plain-in-None : goal.invariant_of-self-in_err-reply_plain-in-None
invariant_of-self-in_err-reply_plain-in-None c = c.in_ok-number.ensures.open c.self.inside.engine.history c.self.invariant

pub invariant_of-self-2 : goal.invariant_of-self-2
invariant_of-self-2 c = c.in_ok-number.ensures.open c.self.inside.engine.history c.self.invariant
