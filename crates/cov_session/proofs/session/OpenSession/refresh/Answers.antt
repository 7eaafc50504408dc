use Rattle.std.proofs.Common.{◌∙◌, sym, ap, subst, length, Ok}
use Rattle.std.proofs.lemmas.Result.{err_from_is_err_and}
use Rattle.cov_edit.specs.History.{option_count}
use Rattle.cov_engine.specs.States.{EngineValue}
use Rattle.cov_session.specs.Adding.{IsAdditionFault}
use Rattle.cov_session.specs.Open.{SessionValue}
use Rattle.cov_session.specs.Refreshing.{IsInReach, rebased, first_lost}
use Rattle.cov_session.specs.contracts.session.OpenSession.{the_view}
use Rattle.cov_history.specs.Sessions.{edits_of, IsGood}
use Rattle.cov_session.proofs.Refreshing.{reach-within, loss-refused, refreshed-is, open-at}
use Rattle.cov_session.proofs.session.OpenSession.refresh.Goals as goal

pub view_on-requires-clause-reach : goal.view_on-requires-clause-reach
view_on-requires-clause-reach c =
    subst (λ h. IsInReach (option_count h) c.args.self.now) (sym (ap (λ (e : EngineValue). e.history) c.bring_forward.ensures ∙ c.completed_now.ensures.history))
    (reach-within c.args.engine.now.history c.args.self.now c.requires.open)

pub returns-in_err-view-clause-refused : goal.returns-in_err-view-clause-refused
returns-in_err-view-clause-refused c =
    let s = c.args.self.now.session in
    let p = err_from_is_err_and c.from_residual-in_err-view.result c.from_residual-in_err-view.ensures.1 in
    rw (p.1, p.2)
    (loss-refused c.args.engine.now.history s c.in_ok-choice.choice c.in_err-view.field-0.0 c.in_ok-choice.ensures.completed
    (subst (λ h. IsAdditionFault c.in_err-view.field-0.0 (first_lost h (rebased s (length h) c.in_ok-choice.choice) (edits_of s))) (ap (λ (e : EngineValue). e.history) c.bring_forward.ensures ∙ c.completed_now.ensures.history) c.in_err-view.ensures.refused))

pub returns-clause-refreshed : goal.returns-clause-refreshed
returns-clause-refreshed c =
    let h = c.args.engine.now.history in
    let s = c.args.self.now.session in
    let choice = c.in_ok-choice.choice in
    let at = c.position-self-inside.ensures ∙ ap length (ap (λ (e : EngineValue). e.history) c.bring_forward.ensures ∙ c.completed_now.ensures.history) in
    refreshed-is h s choice c.in_ok-choice.ensures.completed (subst (λ g. IsGood g (rebased s (length g) choice)) (ap (λ (e : EngineValue). e.history) c.bring_forward.ensures ∙ c.completed_now.ensures.history) c.in_ok-view.ensures.open.good)
    ∙ ap (λ (t : SessionValue). Ok (rebased t.session (length h) choice)) (sym c.self.view_is)
    ∙ ap (λ base. Ok (rebased (the_view c.self.inside).session base choice)) (sym at)

pub returns-clause-open : goal.returns-clause-open
returns-clause-open c =
    open-at c.args.engine.now.history c.bring_forward.new.self.history c.args.self.now (the_view c.self.inside) c.in_ok-choice.choice c.in_ok-view.view c.position-self-inside.result
    (ap (λ (e : EngineValue). e.history) c.bring_forward.ensures ∙ c.completed_now.ensures.history) c.position-self-inside.ensures c.self.view_is c.in_ok-view.ensures.open
