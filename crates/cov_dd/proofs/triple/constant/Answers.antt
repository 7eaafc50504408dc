use Rattle.std.proofs.Common.{sym, arith}
use Rattle.cov_dd.proofs.Nodes.{constant_stands}
use Rattle.cov_dd.proofs.triple.constant.Goals as goal

pub returns-then-on : goal.returns-then-on
returns-then-on c = λ ts. constant_stands ts 1 c.args.on (omega arith) (sym c.if-on.true)

pub returns-else-on : goal.returns-else-on
returns-else-on c = λ ts. constant_stands ts 0 c.args.on (omega arith) (sym c.if-on.false)
