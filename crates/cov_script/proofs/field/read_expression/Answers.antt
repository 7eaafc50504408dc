use Rattle.std.proofs.Common.{arith}
use Rattle.cov_script.proofs.Places.{answered_within}
use Rattle.cov_script.proofs.field.read_expression.Goals as goal

pub overflow_add-result : goal.overflow_add-result
overflow_add-result c = omega (arith, answered_within c.ahead-at.result.1.now c.in-Err-Syntax.field-0 c.in-Err-Syntax.within c.in-Err-Syntax.ensures.answer c.in-Err-Syntax.field-0-is, c.ahead-at.ensures.within)
