use Rattle.std.proofs.Common.{sym, ◌∙◌}
use Rattle.cov_dd.proofs.Nodes.{value-none}
use Rattle.cov_dd.proofs.table.Table.value.Goals as goal

pub returns : goal.returns
returns c = sym (value-none c.args.self.now c.loop-triple.node c.args.choice (sym c.in_default.ensures.entry)) ∙ c.loop-triple.invariant
