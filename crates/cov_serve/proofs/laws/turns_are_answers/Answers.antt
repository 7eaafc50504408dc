use Rattle.cov_serve.proofs.Turns.{history_as, replies_as, rows_as}
use Rattle.cov_serve.proofs.laws.turns_are_answers.Goals as goal

pub returns : goal.returns
returns c st ls = (replies_as st ls, rows_as st ls, history_as st ls)
