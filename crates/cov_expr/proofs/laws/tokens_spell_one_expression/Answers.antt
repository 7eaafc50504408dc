use Rattle.cov_expr.proofs.Spelt.{one_expression}
use Rattle.cov_expr.proofs.laws.tokens_spell_one_expression.Goals as goal

pub returns : goal.returns
returns c = λ rule tokens e f. one_expression rule
