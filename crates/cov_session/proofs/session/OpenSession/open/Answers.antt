use Rattle.cov_session.proofs.Opening.{declared-by}
use Rattle.cov_session.proofs.session.OpenSession.open.Goals as goal

pub returns-in_err-choice-clause-declared : goal.returns-in_err-choice-clause-declared
returns-in_err-choice-clause-declared c =
    declared-by c.open_options_are_declared.ensures c.args.engine.now.history c.args.partial.now c.in_err-choice.field-0.0 c.from_residual.result
    c.from_residual.ensures.1 c.in_err-choice.ensures.refused
