use Rattle.std.proofs.Common.{ap}
use Rattle.cov_session.specs.Open.{SessionValue}
use Rattle.cov_session.proofs.Opening.{declared-by}
use Rattle.cov_session.proofs.Refreshing.{bound-within, still-good}
use Rattle.cov_session.proofs.session.OpenSession.completed_now.Goals as goal

pub complete-requires : goal.complete-requires
complete-requires c =
    bound-within c.args.engine.now.history c.args.self.now.session c.self.inside.choice _ c.requires.open.good (ap (λ (s : SessionValue). s.session.choice) c.self.view_is) c.in_ok-own.ensures.within

pub returns-in_err-complete-clause-declared : goal.returns-in_err-complete-clause-declared
returns-in_err-complete-clause-declared c =
    declared-by c.open_options_are_declared.ensures c.args.engine.now.history _ c.in_err-complete.field-0.0 c.from_residual-in_err-complete.result
    c.from_residual-in_err-complete.ensures.1 c.in_err-complete.ensures.refused

pub returns-clause-inside : goal.returns-clause-inside
returns-clause-inside c =
    still-good c.args.engine.now.history c.args.self.now _ _ c.self.inside.choice _ c.in_ok-complete.field-0 c.requires.open (ap (λ (s : SessionValue). s.session.choice) c.self.view_is)
    c.in_ok-own.ensures.bindings c.in_ok-complete.ensures.answer
