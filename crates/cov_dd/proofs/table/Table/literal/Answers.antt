use Rattle.std.proofs.Common.{arith}
use Rattle.std.proofs.lemmas.Result.{IfOk-weaker}
use Rattle.cov_dd.proofs.Nodes.{some_nodes, top-constant, literal_stands}
use Rattle.cov_dd.proofs.table.Table.literal.Goals as goal

pub make-requires-clause-off : goal.make-requires-clause-off
make-requires-clause-off c = omega (arith, some_nodes c.args.self.now)

pub make-requires-clause-on : goal.make-requires-clause-on
make-requires-clause-on c = some_nodes c.args.self.now

pub make-requires-clause-off_above : goal.make-requires-clause-off_above
make-requires-clause-off_above c = omega (arith, top-constant c.args.self.now 0 (omega arith))

pub make-requires-clause-on_above : goal.make-requires-clause-on_above
make-requires-clause-on_above c = omega (arith, top-constant c.args.self.now 1 (omega arith))

pub returns-clause-stands : goal.returns-clause-stands
returns-clause-stands c = IfOk-weaker c.make.result _ _ (λ r. literal_stands c.args.self.now c.make.new.self r c.args.option) c.make.ensures.stands
