use Rattle.std.specs.Prelude.{Ok, Err}
use Rattle.cov_expr.proofs.Parsing.{answer-parsed, answer-parts}
use Rattle.cov_expr.proofs.spelling.parse.Goals as goal

pub new-requires : goal.new-requires
new-requires c = answer-parts c.args.bytes.now c.in-Ok.tree c.in-Ok.ensures

pub returns-in-Ok-clause-grammar : goal.returns-in-Ok-clause-grammar
returns-in-Ok-clause-grammar c = rw c.new.ensures (answer-parsed c.args.bytes.now (Ok c.in-Ok.tree) c.in-Ok.ensures)

pub returns-in-Err-clause-grammar : goal.returns-in-Err-clause-grammar
returns-in-Err-clause-grammar c = answer-parsed c.args.bytes.now (Err c.in-Err.fault) c.in-Err.ensures
