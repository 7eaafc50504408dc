use Rattle.cov_expr.proofs.Parsing.{answer-parsed, parsed-is_answer}
use Rattle.cov_expr.proofs.laws.reading_follows_grammar.Goals as goal

pub returns : goal.returns
returns c = λ bytes answer. (answer-parsed bytes answer, parsed-is_answer bytes answer)
