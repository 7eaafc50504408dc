use Rattle.std.proofs.Common.{ap, subst, sym}
use Rattle.std.specs.Prelude.{IfOk}
use Rattle.cov_loop.specs.Answers.{Gives}
use Rattle.cov_lines.specs.Laws.{long_refused}
use Rattle.cov_lines.specs.States.{ServerValue, State}
use Rattle.cov_lines.specs.Step.{step}
use Rattle.cov_lines.proofs.answering.ServerLineServer.answer_long.Goals as goal

pub returns-clause-gives : goal.returns-clause-gives
returns-clause-gives c = λ line long.
    let st = c.self.inside.state.state in
    subst (λ (t : State). IfOk c.refuse.result (Gives (step t line) t)) (ap (λ (v : ServerValue). v.state) c.self.view_is)
    (subst (λ o. IfOk c.refuse.result (Gives o st)) (sym (long_refused st line long)) c.refuse.ensures)
