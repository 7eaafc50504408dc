use Rattle.cov_lines.specs.Growth.{question_keeps}
use Rattle.cov_lines.specs.Step.{served_question}
use Rattle.cov_lines.proofs.state.ServerState.answer_question.Goals as goal

pub returns : goal.returns
returns c =
    let st = c.args.self.now.state in
    c.as_reply.ensures (served_question st c.args.question) st c.serve_question.new.self.state (question_keeps st c.args.question) c.serve_question.ensures
