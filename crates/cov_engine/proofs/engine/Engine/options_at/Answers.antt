use Rattle.std.proofs.Common.{arith}
use Rattle.cov_engine.proofs.Refused.{declared-less}
use Rattle.cov_engine.proofs.engine.Engine.options_at.Goals as goal

pub returns-clause-most : goal.returns-clause-most
returns-clause-most c =
    let less = declared-less c.args.at c.self.inside.state.commands.commands in
    let few = c.self.invariant.0.0.rules.below.few in
    let count = c.count_up_to.ensures in
    omega (arith, less, few, count)
