use Rattle.std.proofs.Common.{◌≡◌, ◌∙◌, sym, ap, subst, length, map, arith}
use Rattle.cov_edit.specs.History.{option_count}
use Rattle.cov_session.specs.Calls.{IsSessionFaultOf, opened_among}
use Rattle.cov_session.specs.Open.{as_named}
use Rattle.cov_session.specs.Opening.{NamesDeclared}
use Rattle.cov_lines.specs.Acting.{Acts, Stops}
use Rattle.cov_codes.specs.Codes.{session_code}
use Rattle.cov_lines.specs.Finding.{by_code}
use Rattle.cov_lines.specs.States.{Serving, State}
use Rattle.cov_lines.specs.Step.{opened}
use Rattle.cov_codes.specs.Stops.{session_stop}
use Rattle.cov_lines.proofs.Acted.{stopped, stops-later}
use Rattle.cov_lines.proofs.Opened.{among-whole, opened-as, with_opened}
use Rattle.cov_lines.proofs.SessionFaults.{fault-stops}
use Rattle.cov_lines.proofs.state.ServerState.open.Goals as goal

pub returns-in_err-opened : goal.returns-in_err-opened
returns-in_err-opened c =
    let st = c.args.self.now.state in
    let name = c.args.name in
    let partial = c.in_ok-partial.partial in
    let within = c.in_ok-ambition.ambition in
    let bound = c.in_ok-partial.ensures.found in
    let expr = c.in_ok-ambition.ensures.found in
    let fault = c.in_err-opened.field-0.0 in
    let new : State = record { history = c.open.new.engine.history; sessions = map as_named c.open.new.self; trees = c.self.inside.trees } in
    let same =
    ap (λ h. record { history = h; sessions = map as_named c.open.new.self; trees = c.self.inside.trees }) c.in_err-opened.ensures.history
    ∙ ap (λ ss. record { history = c.self.inside.engine.history; sessions = map as_named ss; trees = c.self.inside.trees }) c.in_err-opened.ensures.same ∙ ap (λ (v : Serving). v.state) c.self.view_is in
    stopped (Acts (opened st name c.args.choice.now c.args.ambition.now) st new) c.from_residual-in_err-opened.result _ c.from_residual-in_err-opened.ensures.1
    (subst (λ wanted. Stops wanted st new (session_stop fault)) (sym (opened-as st name c.args.choice.now c.args.ambition.now partial within bound expr))
    (stops-later (by_code session_code (opened_among st.history st.sessions name partial within)) (with_opened st name c.args.choice.now c.args.ambition.now partial within bound expr) st new (session_stop fault)
    (fault-stops (opened_among st.history st.sessions name partial within) st new fault same
    (subst (λ (t : State). IsSessionFaultOf (opened_among t.history t.sessions name partial within) fault) (ap (λ (v : Serving). v.state) c.self.view_is) c.in_err-opened.ensures.refused)
    (subst (λ (t : State). NamesDeclared (option_count t.history) fault) (ap (λ (v : Serving). v.state) c.self.view_is) c.in_err-opened.ensures.declared))))

pub reply_open-requires : goal.reply_open-requires
reply_open-requires c =
    let history = c.self.inside.engine.history in
    let made = c.in_ok-opened.ensures.opened in
    let whole : length c.in_ok-opened.opened.choice ≡ option_count history =
    ap length made.choice ∙ among-whole history made.session (map as_named c.self.inside.sessions) c.args.name c.in_ok-partial.partial c.in_ok-ambition.ambition made.made in
    let names : length c.options-options.result.now.names ≡ option_count history = ap length c.options-options.ensures ∙ ap option_count c.in_ok-opened.ensures.history in
    omega (arith, whole, names)
